-- A message behind the others, and which lines are there.
use Rattle.std.proofs.Common.{◌≡◌, ◌==◌, ◌&&◌, ◌+◌, ◌<◌, ◌≤◌, ℕ, Bool, true, false, cond, nat_lt, List, [], ◌∷◌, ◌++◌, count_by, get_or, length, Option, None, Some, is_some, MatchBool, Ok, refl, sym, ap, ◌∙◌, subst, arith}
use Rattle.std.proofs.lemmas.Bool.{lt-ltb, ltb-true}
use Rattle.std.proofs.lemmas.Bool.Decides.{Decides-eqb}
use Rattle.std.proofs.lemmas.List.{get_or_past, map-append}
use Rattle.std.proofs.lemmas.List.Sums.{sum_by-cons, sum_by_push}
use Rattle.std.specs.Map.{lookup}
use Rattle.mt_names.proofs.BoolLemmas.{both}
use Rattle.mt_workers.specs.Advances.{Answer}
use Rattle.mt_workers.specs.Collected.{Adds, Collected, HasFirst, IsCollected, IsWhole, collected_in, due, is_of, lines_of, messages_in, times, with_message}
use Rattle.mt_workers.specs.declared.message.Message.{Message}

abbrev pub Replies : Type 0
Replies = List ((ℕ × ℕ) × Answer)

-- a reply stands under its worker and line
abbrev pub key : (worker line : ℕ) → ℕ × ℕ → Bool
key worker line k = (worker == k.0) && (line == k.1)

-- how many messages of some are of a line
abbrev pub count : (worker line : ℕ) → List Message → ℕ
count worker line messages = count_by (is_of worker line) messages

abbrev message : (worker line : ℕ) → Answer → Message
message worker line reply = record { worker = worker; line = line; reply = reply }

-- ---- which lines are there

counted : (w l : ℕ) (rs : Replies) → MatchBool (is_some (lookup (key w l) rs)) (0 < count w l (messages_in rs)) (count w l (messages_in rs) ≡ 0)
counted w l [] = refl
counted w l (r ∷ rs) = by (key w l r.0) refl (counted w l rs)
  where
    one_more : count w l (messages_in (r ∷ rs)) ≡ cond (key w l r.0) 1 0 + count w l (messages_in rs)
    one_more = sum_by-cons (λ m. cond (is_of w l m) 1 0) (message r.0.0 r.0.1 r.1) (messages_in rs)

    by : (t : Bool) → key w l r.0 ≡ t → MatchBool (is_some (lookup (key w l) rs)) (0 < count w l (messages_in rs)) (count w l (messages_in rs) ≡ 0)
        → MatchBool (is_some (lookup (key w l) (r ∷ rs))) (0 < count w l (messages_in (r ∷ rs))) (count w l (messages_in (r ∷ rs)) ≡ 0)
    by true t rest = rw t (omega (arith, one_more ∙ ap (λ b. cond b 1 0 + count w l (messages_in rs)) t))
    by false t rest =
        let same : count w l (messages_in rs) ≡ count w l (messages_in (r ∷ rs)) = omega (arith, one_more ∙ ap (λ b. cond b 1 0 + count w l (messages_in rs)) t) in
        rw t (subst (λ n. MatchBool (is_some (lookup (key w l) rs)) (0 < n) (n ≡ 0)) same rest)

due_few : (c : Collected) (w l : ℕ) → due c w l ≤ 1
due_few c w l = by (nat_lt l (lines_of c w))
  where
    by : (t : Bool) → cond t 1 0 ≤ 1
    by true = omega arith
    by false = omega arith

-- a line that is there is there once
pub told : (c : Collected) (lines : List ℕ) (rs : Replies) (w l : ℕ) (r : Bool) → collected_in lines rs ≡ c → IsCollected (collected_in lines rs)
    → r ≡ is_some (lookup (key w l) rs) → MatchBool r (times c w l ≡ 1) (times c w l ≡ 0)
told c lines rs w l r view kept is =
    subst (λ d. MatchBool r (times d w l ≡ 1) (times d w l ≡ 0)) view (by r (subst (λ t. MatchBool t (0 < count w l (messages_in rs)) (count w l (messages_in rs) ≡ 0)) (sym is) (counted w l rs)))
  where
    by : (t : Bool) → MatchBool t (0 < count w l (messages_in rs)) (count w l (messages_in rs) ≡ 0) → MatchBool t (count w l (messages_in rs) ≡ 1) (count w l (messages_in rs) ≡ 0)
    by true some = omega (arith, some, kept w l, due_few (collected_in lines rs) w l)
    by false none = none

-- a line that isn't there is found nowhere
pub absent : (rs : Replies) (w l : ℕ) → count w l (messages_in rs) ≡ 0 → lookup (key w l) rs ≡ None
absent rs w l none = by (lookup (key w l) rs) (counted w l rs)
  where
    by : (found : Option Answer) → MatchBool (is_some found) (0 < count w l (messages_in rs)) (count w l (messages_in rs) ≡ 0) → found ≡ None
    by None h = refl
    by (Some reply) h = absurd (omega (arith, h, none))

-- ---- one message more

messages-push : (rs : Replies) (w l : ℕ) (reply : Answer) → messages_in (rs ++ ((w, l), reply) ∷ []) ≡ messages_in rs ++ message w l reply ∷ []
messages-push rs w l reply = map-append (λ entry. message entry.0.0 entry.0.1 entry.1) rs (((w, l), reply) ∷ [])

-- of a line that is waited for and wasn't there
pub kept_more : (lines : List ℕ) (rs new : Replies) (w l : ℕ) (reply : Answer) → new ≡ rs ++ ((w, l), reply) ∷ [] → IsCollected (collected_in lines rs)
    → l < get_or lines w 0 → count w l (messages_in rs) ≡ 0 → IsCollected (collected_in lines new)
kept_more lines rs new w l reply is kept inside none v k = by (is_of v k (message w l reply)) refl
  where
    more : count v k (messages_in new) ≡ count v k (messages_in rs) + cond (is_of v k (message w l reply)) 1 0
    more = ap (λ rs. count v k (messages_in rs)) is ∙ ap (count v k) (messages-push rs w l reply) ∙ sum_by_push (λ m. cond (is_of v k m) 1 0) (messages_in rs) (message w l reply)

    by : (t : Bool) → is_of v k (message w l reply) ≡ t → count v k (messages_in new) ≤ due (collected_in lines new) v k
    by true t =
        let same = both (v == w) (k == l) t in
        let worker : v ≡ w = (Decides-eqb v w).0 same.0 in
        let line : k ≡ l = (Decides-eqb k l).0 same.1 in
        let there : nat_lt k (get_or lines v 0) ≡ true = lt-ltb k (get_or lines v 0) (subst (λ n. k < get_or lines n 0) (sym worker) (subst (λ n. n < get_or lines w 0) (sym line) inside)) in
        let was : count v k (messages_in rs) ≡ 0 = ap (λ n. count n k (messages_in rs)) worker ∙ ap (λ n. count w n (messages_in rs)) line ∙ none in
        rw there (omega (arith, more ∙ ap (λ b. count v k (messages_in rs) + cond b 1 0) t, was))
    by false t =
        let same : count v k (messages_in new) ≡ count v k (messages_in rs) + 0 = more ∙ ap (λ b. count v k (messages_in rs) + cond b 1 0) t in
        omega (arith, same, kept v k)

pub added : (lines : List ℕ) (rs new : Replies) (old : Collected) (m : Message) (w : ℕ) → collected_in lines rs ≡ old → w ≡ m.worker
    → m.line < lines_of old w → times old w m.line ≡ 0 → new ≡ rs ++ ((w, m.line), m.reply) ∷ [] → Adds old m (Ok tt) (collected_in lines new)
added lines rs new old m w view same inside none is = (
  subst (λ v. m.line < lines_of old v) same inside,
  subst (λ v. times old v m.line ≡ 0) same none,
  ap (collected_in lines) is
      ∙ ap (λ ms. record { lines = lines; messages = ms }) (messages-push rs w m.line m.reply)
      ∙ ap (λ v. with_message (collected_in lines rs) (message v m.line m.reply)) same
      ∙ ap (λ c. with_message c m) view,
)

-- ---- whether all lines are there

pub whole_from : (c : Collected) → IsCollected c → ((w : ℕ) → w < length c.lines → HasFirst c w (get_or c.lines w 0)) → IsWhole c
whole_from c kept all w l = by (nat_lt l (get_or c.lines w 0)) refl
  where
    by : (t : Bool) → nat_lt l (get_or c.lines w 0) ≡ t → times c w l ≡ due c w l
    by true t =
        let inside : l < get_or c.lines w 0 = ltb-true l (get_or c.lines w 0) t in
        let there : length c.lines ≤ w → ⊥ = λ past. omega (arith, inside, get_or_past c.lines w 0 past) in
        rw t (all w (omega (arith, there)) l inside)
    by false t = let few : times c w l ≤ 0 = rw t at (kept w l) in rw t (omega (arith, few))

pub first_from : (c : Collected) (w : ℕ) → IsWhole c → HasFirst c w (get_or c.lines w 0)
first_from c w whole l inside = whole w l ∙ ap (λ t. cond t 1 0) (lt-ltb l (get_or c.lines w 0) inside)
