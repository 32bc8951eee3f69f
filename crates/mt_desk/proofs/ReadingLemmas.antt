-- What passes list, read beside a history.
use Rattle.std.specs.Prelude.{IfOk, IfSome, Result, Ok, Err, slice_get}
use Rattle.std.proofs.Common.{◌≡◌, ◌∙◌, ◌==◌, inl, inr, ℕ, zero, suc, ◌+◌, ◌-◌, ◌<◌, ◌≤◌, add-one, Bool, true, false, Contains, List, [], ◌∷◌, ◌++◌, get_or, length, map, set, take, drop, Option, None, Some, refl, sym, ap, subst, arith}
use Rattle.std.proofs.lemmas.List.{get_or-set_other, get_or-set_same, length-take-le, take-append-drop, take_all, take_more}
use Rattle.std.proofs.lemmas.Option.{get_or_from_slice_get}
use Rattle.mt_desk.specs.declared.history.Call.{Call}
use Rattle.mt_desk.specs.declared.history.Line.{Line}
use Rattle.mt_desk.specs.Histories.{call_of, calls_of}
use Rattle.mt_desk.specs.Numbers.{AreNumbers, AreRead, IsNumber, IsReadBy}
use Rattle.mt_desk.specs.Passes.{Differs, ListsOthers}
use Rattle.mt_desk.proofs.CallLemmas.{calls_append, calls_more}
use Rattle.mt_desk.proofs.NumberLemmas.{agree, are_same, differ, has_none, some_of}

nothing : (xs : List Call) → xs ++ [] ≡ xs
nothing [] = refl
nothing (x ∷ xs) = ap (λ l. x ∷ l) (nothing xs)

-- ---- the next call

-- one that is there is inside, and one more is read with it
pub next_inside : (calls : List Call) (n : ℕ) (c : Call) → slice_get calls n ≡ Some c → n < length calls
next_inside [] n c is = absurd cc
next_inside (x ∷ xs) zero c is = omega arith
next_inside (x ∷ xs) (suc n) c is = let a = next_inside xs n c is in omega (arith, a)

take_next : (calls : List Call) (n : ℕ) (c : Call) → slice_get calls n ≡ Some c → take (n + 1) calls ≡ take n calls ++ c ∷ []
take_next calls n c is = take_more calls n c (next_inside calls n c is) ∙ ap (λ x. take n calls ++ x ∷ []) (get_or_from_slice_get calls n c c is)

at_length : (front : List Call) (c : Call) (behind : List Call) → slice_get (front ++ c ∷ behind) (length front) ≡ Some c
at_length [] c behind = refl
at_length (x ∷ xs) c behind = at_length xs c behind

assoc : (xs : List Call) (y : Call) (zs : List Call) → (xs ++ y ∷ []) ++ zs ≡ xs ++ y ∷ zs
assoc [] y zs = refl
assoc (x ∷ xs) y zs = ap (λ l. x ∷ l) (assoc xs y zs)

-- ---- the calls of a client

module _ (history : List Line) (i : ℕ) (l : Line) (inside : i < length history) (is : l ≡ get_or history i l) where
  -- with a line of its own
  pub one_call_more : (client : ℕ) → l.client ≡ client → calls_of client (take (i + 1) history) ≡ calls_of client (take i history) ++ call_of l ∷ []
  one_call_more client of =
      let test : ((get_or history i l).client == client) ≡ true = subst (λ (x : Line). (x.client == client) ≡ true) is (are_same l.client client of) in
      calls_more client history i l true inside test ∙ ap (λ (x : Line). calls_of client (take i history) ++ call_of x ∷ []) (sym is)

  -- with one of another
  pub no_call_more : (client : ℕ) → (l.client == client) ≡ false → calls_of client (take (i + 1) history) ≡ calls_of client (take i history)
  no_call_more client isnt =
      let test : ((get_or history i l).client == client) ≡ false = subst (λ (x : Line). (x.client == client) ≡ false) is isnt in
      calls_more client history i l false inside test ∙ nothing (calls_of client (take i history))

  -- where it is the next one of some calls, one more of these is read
  pub read_on : (client : ℕ) → l.client ≡ client → (calls : List Call) (n : ℕ) → calls_of client (take i history) ≡ take n calls → slice_get calls n ≡ Some (call_of l)
      → calls_of client (take (i + 1) history) ≡ take (n + 1) calls
  read_on client of calls n same next = one_call_more client of ∙ ap (λ xs. xs ++ call_of l ∷ []) same ∙ sym (take_next calls n (call_of l) next)

  -- and where it isn't, the client has other calls
  pub others : (client : ℕ) → l.client ≡ client → (calls : List Call) (n : ℕ) → n ≤ length calls → calls_of client (take i history) ≡ take n calls
      → (slice_get calls n ≡ Some (call_of l) → ⊥) → calls_of client history ≡ calls → ⊥
  others client of calls n le same isnt whole =
      let rest = calls_of client (drop (i + 1) history) in
      let all : calls_of client history ≡ take n calls ++ call_of l ∷ rest
      = ap (calls_of client) (sym (take-append-drop (i + 1) history)) ∙ calls_append client (take (i + 1) history) (drop (i + 1) history)
      ∙ ap (λ xs. xs ++ rest) (one_call_more client of ∙ ap (λ xs. xs ++ call_of l ∷ []) same) ∙ assoc (take n calls) (call_of l) rest in
      let split : calls ≡ take n calls ++ call_of l ∷ rest = sym whole ∙ all in
      let long : length (take n calls) ≡ n = length-take-le n calls le in
      isnt (ap (λ xs. slice_get xs n) split ∙ ap (λ k. slice_get (take n calls ++ call_of l ∷ rest) k) (sym long) ∙ at_length (take n calls) (call_of l) rest)

-- all that were read are all
pub whole : (lines : List Line) (client : ℕ) (calls : List Call) (n : ℕ) → calls_of client lines ≡ take n calls → n ≡ length calls → calls_of client lines ≡ calls
whole lines client calls n same is = same ∙ take_all n calls (omega (arith, is))

pub not_whole : (lines : List Line) (client : ℕ) (calls : List Call) (n : ℕ) → n ≤ length calls → calls_of client lines ≡ take n calls → (n ≡ length calls → ⊥) → calls_of client lines ≡ calls → ⊥
not_whole lines client calls n le same isnt all =
    let long : length (take n calls) ≡ n = length-take-le n calls le in
    isnt (sym long ∙ ap length (sym same ∙ all))

-- ---- all clients at once

at_map : {X Y : Type 0} (f : X → Y) (xs : List X) (k : ℕ) (x : X) (d : Y) → k < length xs → x ≡ get_or xs k x → get_or (map f xs) k d ≡ f x
at_map f [] k x d inside is = absurd (omega (arith, inside))
at_map f (y ∷ ys) zero x d inside is = ap f (sym is)
at_map f (y ∷ ys) (suc k) x d inside is = at_map f ys k x d (omega (arith, inside)) is

none_yet : (passes : List (ℕ × List Call)) (client number : ℕ) → IsReadBy passes [] client number 0
none_yet passes client zero = tt
none_yet passes client (suc k) = λ d. (omega arith, refl)

-- of no line none is read
pub none_read : (passes : List (ℕ × List Call)) (numbers read : List ℕ) → ((client : ℕ) → get_or read client 0 ≡ 0) → AreRead passes [] numbers read
none_read passes numbers read none = λ client. subst (IsReadBy passes [] client (get_or numbers client 0)) (sym (none client)) (none_yet passes client (get_or numbers client 0))

module _ {X : Type 0} (f : X → ℕ × List Call) (xs : List X) (history : List Line) (numbers read : List ℕ) (i : ℕ) (l : Line)
    (inside : i < length history) (is : l ≡ get_or history i l) (was : AreRead (map f xs) (take i history) numbers read) where
  -- of another client as many
  as_many : (client number n : ℕ) → (l.client == client) ≡ false → IsReadBy (map f xs) (take i history) client number n → IsReadBy (map f xs) (take (i + 1) history) client number n
  as_many client zero n isnt same = tt
  as_many client (suc k) n isnt same = λ d. let (le, so) = same d in (le, no_call_more history i l inside is client isnt ∙ so)

  module _ (k : ℕ) (x : X) (within : k < length xs) (at : x ≡ get_or xs k x) (number : get_or numbers l.client 0 ≡ suc k) where
    abbrev n : ℕ
    n = get_or read l.client 0

    pub so_far : (n ≤ length (f x).1) × (calls_of l.client (take i history) ≡ take n (f x).1)
    so_far = so (get_or numbers l.client 0) number (was l.client)
      where
        so : (m : ℕ) → m ≡ suc k → IsReadBy (map f xs) (take i history) l.client m n → (n ≤ length (f x).1) × (calls_of l.client (take i history) ≡ take n (f x).1)
        so m eq read_by =
            let (le, same) = subst (λ (j : ℕ). IsReadBy (map f xs) (take i history) l.client j n) eq read_by (f x) in
            let there = at_map f xs k x (f x) within at in
            (subst (λ (p : ℕ × List Call). n ≤ length p.1) there le, subst (λ (p : ℕ × List Call). calls_of l.client (take i history) ≡ take n p.1) there same)

    module _ (next : slice_get (f x).1 n ≡ Some (call_of l)) where
      pub next_within : n < length (f x).1
      next_within = next_inside (f x).1 n (call_of l) next

      one_more : IsReadBy (map f xs) (take (i + 1) history) l.client (get_or numbers l.client 0) (n + 1)
      one_more = subst (λ (j : ℕ). IsReadBy (map f xs) (take (i + 1) history) l.client j (n + 1)) (sym number) (λ d.
          let there = at_map f xs k x d within at in
          let next_in = next_within in (
            subst (λ (p : ℕ × List Call). n + 1 ≤ length p.1) (sym there) (omega (arith, next_in)),
            subst (λ (p : ℕ × List Call). calls_of l.client (take (i + 1) history) ≡ take (n + 1) p.1) (sym there) (read_on history i l inside is l.client refl (f x).1 n so_far.1 next),
          ))

      -- one more of its client
      pub next_read : (later : List ℕ) → l.client < length read → later ≡ set read l.client (n + 1) → AreRead (map f xs) (take (i + 1) history) numbers later
      next_read later there set_so = subst (AreRead (map f xs) (take (i + 1) history) numbers) (sym set_so) (λ client. by client (l.client == client) refl)
        where
          by : (client : ℕ) (b : Bool) → (l.client == client) ≡ b → IsReadBy (map f xs) (take (i + 1) history) client (get_or numbers client 0) (get_or (set read l.client (n + 1)) client 0)
          by client true same =
              let eq : l.client ≡ client = agree l.client client same in
              subst (λ c. IsReadBy (map f xs) (take (i + 1) history) c (get_or numbers c 0) (get_or (set read l.client (n + 1)) c 0)) eq
              (subst (IsReadBy (map f xs) (take (i + 1) history) l.client (get_or numbers l.client 0)) (sym (get_or-set_same read l.client (n + 1) 0 there)) one_more)
          by client false isnt =
              subst (IsReadBy (map f xs) (take (i + 1) history) client (get_or numbers client 0)) (sym (get_or-set_other read l.client client (n + 1) 0 (differ l.client client isnt)))
              (as_many client (get_or numbers client 0) (get_or read client 0) isnt (was client))

-- ---- a line that isn't of its client's next call

contained : {Y : Type 0} (ys : List Y) (k : ℕ) (y : Y) → k < length ys → y ≡ get_or ys k y → Contains ys y
contained ys k y inside is = (k, inside, sym is)

map_contains : {X Y : Type 0} (f : X → Y) (xs : List X) (k : ℕ) (x : X) → k < length xs → x ≡ get_or xs k x → Contains (map f xs) (f x)
map_contains f [] k x inside is = absurd (omega (arith, inside))
map_contains f (y ∷ ys) zero x inside is = (zero, omega arith, ap f (sym is))
map_contains f (y ∷ ys) (suc k) x inside is = let (j, below, at) = map_contains f ys k x (omega (arith, inside)) is in (suc j, omega (arith, below), at)

pub lists_others : {X : Type 0} (f : X → ℕ × List Call) (xs : List X) (lines : List Line) (k : ℕ) (x : X) (client : ℕ) → k < length xs → x ≡ get_or xs k x → (f x).0 ≡ client
    → (calls_of client lines ≡ (f x).1 → ⊥) → ListsOthers (map f xs) lines client
lists_others f xs lines k x client inside is of other = (f x, map_contains f xs k x inside is, of, λ same. other (subst (λ n. calls_of n lines ≡ (f x).1) of same))

pub a_stranger : (passes : List (ℕ × List Call)) (history : List Line) (i : ℕ) (l : Line) (numbers : List ℕ) → i < length history → l ≡ get_or history i l
    → AreNumbers passes numbers → get_or numbers l.client 0 ≡ 0 → Differs passes history l.client
a_stranger passes history i l numbers inside is are none =
    inr (l, contained history i l inside is, refl, has_none passes l.client (get_or numbers l.client 0) (are l.client) none)

-- the pass of a number is its client's
of_number : {X : Type 0} (f : X → ℕ × List Call) (xs : List X) (k : ℕ) (x : X) (client number : ℕ) → k < length xs → x ≡ get_or xs k x → IsNumber (map f xs) client number → number ≡ suc k
    → (f x).0 ≡ client
of_number f xs k x client number within at are is =
    let (inside, of) = subst (IsNumber (map f xs) client) is are in
    sym (ap (λ (p : ℕ × List Call). p.0) (at_map f xs k x (f x) within at)) ∙ of (f x)

pub number_inside : {X : Type 0} (f : X → ℕ × List Call) (xs : List X) (client number k : ℕ) → length (map f xs) ≡ length xs → IsNumber (map f xs) client number → number ≡ suc k → k < length xs
number_inside f xs client number k long are is = let (inside, of) = subst (IsNumber (map f xs) client) is are in omega (arith, inside, long)

pub another_call : {X : Type 0} (f : X → ℕ × List Call) (xs : List X) (history : List Line) (numbers read : List ℕ) (i k : ℕ) (l : Line) (x : X) → i < length history → l ≡ get_or history i l
    → AreNumbers (map f xs) numbers → AreRead (map f xs) (take i history) numbers read → k < length xs → x ≡ get_or xs k x → get_or numbers l.client 0 ≡ suc k
    → (slice_get (f x).1 (get_or read l.client 0) ≡ Some (call_of l) → ⊥) → Differs (map f xs) history l.client
another_call f xs history numbers read i k l x inside is are was within at number isnt =
    let (le, same) = so_far f xs history numbers read i l inside is was k x within at number in
    inl (lists_others f xs history k x l.client within at (of_number f xs k x l.client (get_or numbers l.client 0) within at (are l.client) number)
    (others history i l inside is l.client refl (f x).1 (get_or read l.client 0) le same isnt))

-- ---- each pass

-- of the numbered one its calls were read
pub was_read : {X : Type 0} (f : X → ℕ × List Call) (xs : List X) (lines : List Line) (numbers read : List ℕ) (k client : ℕ) (x : X) → k < length xs → x ≡ get_or xs k x → (f x).0 ≡ client
    → AreRead (map f xs) lines numbers read → get_or numbers client 0 ≡ k + 1
    → (get_or read client 0 ≤ length (f x).1) × (calls_of client lines ≡ take (get_or read client 0) (f x).1)
was_read f xs lines numbers read k client x within at of was is =
    let (le, same) = subst (λ (j : ℕ). IsReadBy (map f xs) lines client j (get_or read client 0)) (is ∙ add-one k) (was client) (f x) in
    let there = at_map f xs k x (f x) within at in
    (subst (λ (p : ℕ × List Call). get_or read client 0 ≤ length p.1) there le, subst (λ (p : ℕ × List Call). calls_of client lines ≡ take (get_or read client 0) p.1) there same)

-- whoever lists others has calls that differ
pub others_differ : (passes : List (ℕ × List Call)) (lines : List Line) (found : Option ℕ) → IfSome found (λ client. ListsOthers passes lines client) → IfSome found (λ client. Differs passes lines client)
others_differ passes lines None is = is
others_differ passes lines (Some client) is = inl is

-- ---- as the code finds them

module _ {X : Type 0} (f : X → ℕ × List Call) (xs : List X) (history : List Line) (numbers read : List ℕ) (i client : ℕ) (l : Line) (x : X)
    (inside : i < length history) (is : l ≡ get_or history i l) (of : client ≡ l.client) (some : get_or numbers client 0 ≡ 0 → ⊥) (long : length (map f xs) ≡ length xs)
    (at : x ≡ get_or xs (get_or numbers client 0 - 1) x) (are : AreNumbers (map f xs) numbers) (was : AreRead (map f xs) (take i history) numbers read) where
  before_it : get_or numbers l.client 0 ≡ suc (get_or numbers client 0 - 1)
  before_it = let positive = some_of (get_or numbers client 0) some in ap (λ k. get_or numbers k 0) (sym of) ∙ omega (arith, positive)

  within : get_or numbers client 0 - 1 < length xs
  within = number_inside f xs l.client (get_or numbers l.client 0) (get_or numbers client 0 - 1) long (are l.client) before_it

  -- a line of another call
  pub differs_there : (slice_get (f x).1 (get_or read client 0) ≡ Some (call_of l) → ⊥) → Differs (map f xs) history l.client
  differs_there isnt = another_call f xs history numbers read i (get_or numbers client 0 - 1) l x inside is are was within at before_it
      (subst (λ k. slice_get (f x).1 (get_or read k 0) ≡ Some (call_of l) → ⊥) of isnt)

  module _ (next : slice_get (f x).1 (get_or read client 0) ≡ Some (call_of l)) where
    next_there : slice_get (f x).1 (get_or read l.client 0) ≡ Some (call_of l)
    next_there = subst (λ k. slice_get (f x).1 (get_or read k 0) ≡ Some (call_of l)) of next

    pub read_there : (later : List ℕ) → client < length read → later ≡ set read client (get_or read client 0 + 1) → AreRead (map f xs) (take (i + 1) history) numbers later
    read_there later there set_so = next_read f xs history numbers read i l inside is was (get_or numbers client 0 - 1) x within at before_it next_there later
        (subst (λ k. k < length read) of there) (subst (λ k. later ≡ set read k (get_or read k 0 + 1)) of set_so)

-- ---- what is so of a result is so of it in other words

pub if_ok : {T E : Type 0} {P Q : T → Type 0} (r : Result T E) → ((x : T) → P x → Q x) → IfOk r P → IfOk r Q
if_ok (Ok x) other said = other x said
if_ok (Err e) other said = said

-- nothing is found where none is
pub none_found : {T : Type 0} (o : Option T) → ((x : T) → o ≡ Some x → ⊥) → o ≡ None
none_found None not = refl
none_found (Some x) not = absurd (not x refl)
