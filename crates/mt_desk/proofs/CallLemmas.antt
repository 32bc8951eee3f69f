-- The calls of a client in a history, as far as it was read.
use Rattle.std.proofs.Common.{◌≡◌, ◌==◌, ℕ, ◌+◌, ◌<◌, Bool, true, false, cond, filter, List, [], ◌∷◌, ◌++◌, get_or, length, map, take, ap, ◌∙◌}
use Rattle.std.proofs.lemmas.List.{map-append, take_more}
use Rattle.std.proofs.lemmas.List.Elements.{filter-append}
use Rattle.mt_desk.specs.declared.history.Call.{Call}
use Rattle.mt_desk.specs.declared.history.Line.{Line}
use Rattle.mt_desk.specs.Histories.{call_of, calls_of}

-- those of two histories, one behind the other
pub calls_append : (client : ℕ) (xs ys : List Line) → calls_of client (xs ++ ys) ≡ calls_of client xs ++ calls_of client ys
calls_append client xs ys = ap (map call_of) (filter-append (λ l. l.client == client) xs ys) ∙ map-append call_of (filter (λ l. l.client == client) xs) (filter (λ l. l.client == client) ys)

-- that of one line, where it is the client's
abbrev calls_by : (is : Bool) → Line → List Call
calls_by is l = cond is (call_of l ∷ []) []

calls_one : (client : ℕ) (l : Line) (is : Bool) → (l.client == client) ≡ is → calls_of client (l ∷ []) ≡ calls_by is l
calls_one client l true is = ap (λ b. map call_of (cond b (l ∷ []) [])) is
calls_one client l false is = ap (λ b. map call_of (cond b (l ∷ []) [])) is

-- with one line more
pub calls_more : (client : ℕ) (history : List Line) (i : ℕ) (d : Line) (is : Bool) → i < length history → ((get_or history i d).client == client) ≡ is
    → calls_of client (take (i + 1) history) ≡ calls_of client (take i history) ++ calls_by is (get_or history i d)
calls_more client history i d is inside test =
    ap (calls_of client) (take_more history i d inside)
    ∙ calls_append client (take i history) (get_or history i d ∷ [])
    ∙ ap (λ xs. calls_of client (take i history) ++ xs) (calls_one client (get_or history i d) is test)
