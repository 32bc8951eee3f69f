-- Numbers of passes, as these are noted one after the other.
use Rattle.std.proofs.Common.{◌≡◌, ◌∙◌, ◌==◌, ◌||◌, ℕ, zero, suc, ◌+◌, ◌<◌, ◌≤◌, ◌≢◌, add-one, Bool, true, false, cond, All, Contains, List, [], ◌∷◌, ◌++◌, get_or, length, map, replicate, set, take, refl, sym, ap, subst, arith, length-append}
use Rattle.std.proofs.Math.Seq.{get_or-append_seam}
use Rattle.std.proofs.lemmas.Bool.{true≢false}
use Rattle.std.proofs.lemmas.Bool.Decides.{nat_tests}
use Rattle.std.proofs.lemmas.List.{get_or-set_other, get_or-set_same, get_or_append_left, length-map, length-take-le}
use Rattle.std.proofs.lemmas.List.Elements.{All-contains}
use Rattle.mt_desk.specs.declared.history.Call.{Call}
use Rattle.mt_desk.specs.Numbers.{AreNumbers, IsNumber}
use Rattle.mt_desk.specs.Passes.{HasPass, has_pass}

pub agree : (n m : ℕ) → (n == m) ≡ true → n ≡ m
agree n m is = grind (is, arith, nat_tests)

pub are_same : (n m : ℕ) → n ≡ m → (n == m) ≡ true
are_same n m is = grind (is, arith, nat_tests)

pub differ : (n m : ℕ) → (n == m) ≡ false → m ≢ n
differ n m isnt e = true≢false (sym (are_same n m (sym e)) ∙ isnt)

-- one pass more
has_push : (passes : List (ℕ × List Call)) (pass : ℕ × List Call) (client : ℕ) → has_pass (passes ++ pass ∷ []) client ≡ cond (pass.0 == client) true (has_pass passes client)
has_push [] pass client = by (pass.0 == client)
  where
    by : (b : Bool) → (b || false) ≡ cond b true false
    by true = refl
    by false = refl
has_push (p ∷ passes) pass client = ap (λ b. (p.0 == client) || b) (has_push passes pass client) ∙ by (p.0 == client) (pass.0 == client)
  where
    by : (b c : Bool) → (b || cond c true (has_pass passes client)) ≡ cond c true (b || has_pass passes client)
    by true true = refl
    by true false = refl
    by false true = refl
    by false false = refl

keeps : (passes : List (ℕ × List Call)) (pass : ℕ × List Call) (client number : ℕ) → (pass.0 == client) ≡ false → IsNumber passes client number → IsNumber (passes ++ pass ∷ []) client number
keeps passes pass client zero isnt none = has_push passes pass client ∙ ap (λ b. cond b true (has_pass passes client)) isnt ∙ none
keeps passes pass client (suc i) isnt (inside, of) =
    (let a = length-append passes (pass ∷ []) in omega (arith, a, inside), λ d. ap (λ (p : ℕ × List Call). p.0) (get_or_append_left passes (pass ∷ []) d i inside) ∙ of d)

is_last : (passes : List (ℕ × List Call)) (pass : ℕ × List Call) (client : ℕ) → pass.0 ≡ client → IsNumber (passes ++ pass ∷ []) client (suc (length passes))
is_last passes pass client is =
    (let a = length-append passes (pass ∷ []) in omega (arith, a), λ d. ap (λ (p : ℕ × List Call). p.0) (get_or-append_seam passes pass [] d) ∙ is)

one_more : (passes : List (ℕ × List Call)) (pass : ℕ × List Call) (numbers : List ℕ) → AreNumbers passes numbers → pass.0 < length numbers
    → AreNumbers (passes ++ pass ∷ []) (set numbers pass.0 (suc (length passes)))
one_more passes pass numbers are inside = λ client. by client (pass.0 == client) refl
  where
    by : (client : ℕ) (b : Bool) → (pass.0 == client) ≡ b → IsNumber (passes ++ pass ∷ []) client (get_or (set numbers pass.0 (suc (length passes))) client 0)
    by client true same =
        let is : pass.0 ≡ client = agree pass.0 client same in
        let there : get_or (set numbers pass.0 (suc (length passes))) client 0 ≡ suc (length passes)
        = ap (λ k. get_or (set numbers pass.0 (suc (length passes))) k 0) (sym is) ∙ get_or-set_same numbers pass.0 (suc (length passes)) 0 inside in
        subst (IsNumber (passes ++ pass ∷ []) client) (sym there) (is_last passes pass client is)
    by client false isnt =
        subst (IsNumber (passes ++ pass ∷ []) client) (sym (get_or-set_other numbers pass.0 client (suc (length passes)) 0 (differ pass.0 client isnt)))
        (keeps passes pass client (get_or numbers client 0) isnt (are client))

-- one item more of a list
map_suc : {X Y : Type 0} (f : X → Y) (xs : List X) (i : ℕ) (x : X) → i < length xs → x ≡ get_or xs i x → map f (take i xs) ++ f x ∷ [] ≡ map f (take (suc i) xs)
map_suc f [] i x inside is = absurd (omega (arith, inside))
map_suc f (y ∷ ys) zero x inside is = rw is refl
map_suc f (y ∷ ys) (suc i) x inside is = ap (λ l. f y ∷ l) (map_suc f ys i x (omega (arith, inside)) is)

map_next : {X Y : Type 0} (f : X → Y) (xs : List X) (i : ℕ) (x : X) → i < length xs → x ≡ get_or xs i x → map f (take i xs) ++ f x ∷ [] ≡ map f (take (i + 1) xs)
map_next f xs i x inside is = subst (λ n. map f (take i xs) ++ f x ∷ [] ≡ map f (take n xs)) (sym (add-one i)) (map_suc f xs i x inside is)

how_many : {X Y : Type 0} (f : X → Y) (xs : List X) (i : ℕ) → i < length xs → suc (length (map f (take i xs))) ≡ i + 1
how_many f xs i inside = let a = length-map (take i xs) f in let b = length-take-le i xs (omega (arith, inside)) in omega (arith, a, b)

-- with the next one of some passes noted
pub next_noted : {X : Type 0} (f : X → ℕ × List Call) (xs : List X) (i : ℕ) (x : X) (numbers later : List ℕ) → i < length xs → x ≡ get_or xs i x
    → AreNumbers (map f (take i xs)) numbers → (f x).0 < length numbers → later ≡ set numbers (f x).0 (i + 1) → AreNumbers (map f (take (i + 1) xs)) later
next_noted f xs i x numbers later inside is are within set_so =
    let noted = one_more (map f (take i xs)) (f x) numbers are within in
    let at : set numbers (f x).0 (suc (length (map f (take i xs)))) ≡ later = ap (set numbers (f x).0) (how_many f xs i inside) ∙ sym set_so in
    subst (AreNumbers (map f (take (i + 1) xs))) at
    (subst (λ ps. AreNumbers ps (set numbers (f x).0 (suc (length (map f (take i xs)))))) (map_next f xs i x inside is) noted)

pub some_of : (n : ℕ) → (n ≡ 0 → ⊥) → 1 ≤ n
some_of zero isnt = absurd (isnt refl)
some_of (suc n) isnt = omega arith

-- ---- who has a number, has a pass

number_of : (passes : List (ℕ × List Call)) (client number : ℕ) → IsNumber passes client number → 1 ≤ number → has_pass passes client ≡ true
number_of passes client zero is some = absurd (omega (arith, some))
number_of passes client (suc i) (inside, of) some = among passes i inside of
  where
    among : (ps : List (ℕ × List Call)) (k : ℕ) → k < length ps → ((d : ℕ × List Call) → (get_or ps k d).0 ≡ client) → has_pass ps client ≡ true
    among [] k within at = absurd (omega (arith, within))
    among (p ∷ ps) zero within at = ap (λ b. b || has_pass ps client) (are_same p.0 client (at p))
    among (p ∷ ps) (suc k) within at = either (p.0 == client) (has_pass ps client) (among ps k (omega (arith, within)) at)
      where
        either : (b c : Bool) → c ≡ true → (b || c) ≡ true
        either true c is = refl
        either false c is = is

pub all_have : (passes : List (ℕ × List Call)) (numbers clients : List ℕ) → AreNumbers passes numbers → All (λ client. 1 ≤ get_or numbers client 0) clients → All (HasPass passes) clients
all_have passes numbers clients are all = λ k d inside. number_of passes (get_or clients k d) (get_or numbers (get_or clients k d) 0) (are (get_or clients k d)) (all k d inside)

pub has_of : (passes : List (ℕ × List Call)) (numbers : List ℕ) (client : ℕ) → AreNumbers passes numbers → 1 ≤ get_or numbers client 0 → has_pass passes client ≡ true
has_of passes numbers client are some = number_of passes client (get_or numbers client 0) (are client) some

pub has_none : (passes : List (ℕ × List Call)) (client number : ℕ) → IsNumber passes client number → number ≡ 0 → has_pass passes client ≡ false
has_none passes client number is none = subst (IsNumber passes client) none is

-- where one of some clients has none, not all have
pub not_all : (passes : List (ℕ × List Call)) (numbers clients : List ℕ) (client : ℕ) → AreNumbers passes numbers → Contains clients client → get_or numbers client 0 ≡ 0
    → All (HasPass passes) clients → ⊥
not_all passes numbers clients client are there none all =
    true≢false (sym (All-contains (HasPass passes) clients client all there) ∙ has_none passes client (get_or numbers client 0) (are client) none)

-- ---- a table of zeros

pub zeros : (n client : ℕ) → ◌≡◌ {A = ℕ} (get_or (replicate n 0) client 0) 0
zeros zero client = refl
zeros (suc n) zero = refl
zeros (suc n) (suc client) = zeros n client
