-- How far asking has come.
use Rattle.std.proofs.Common.{◌≡◌, arith, ℕ, zero, suc, ◌+◌, ◌<◌, ◌≤◌, true, false, ◌||◌, List, [], ◌∷◌, length, map, slice_get, slice_index_or, Option, None, Some, Result, Ok, Err, refl, sym, ap, subst, ◌∙◌}
use Rattle.std.proofs.lemmas.Bool.{false_from_ne_true, true≢false}
use Rattle.std.specs.Option.{option_map}
use Rattle.std.proofs.lemmas.List.{length-map}
use Rattle.std.proofs.lemmas.Option.{same_Some, slice_get-map, slice_get_read, slice_get_within}
use borrow.Author.Count.{below_more}
use Rattle.mt_model.specs.declared.entries.Entry.{Entry}
use Rattle.mt_model.specs.declared.entries.Scope.{Scope}
use Rattle.mt_watch.specs.declared.fault.WatchFault.{WatchFault}
use Rattle.mt_watch.specs.declared.fault.WatchersFault.{WatchersFault}
use Rattle.mt_watch.specs.Asking.{Answering, AsksEach, AsksOne, AsksOneWhere, AsksOfScope, IsScopeAt, IsTold, IsRefusedAt, by_number}
use Rattle.mt_watch.specs.Notices.{notice_of}
use Rattle.mt_watch.specs.Scopes.{has_scope, same_scope}
use Rattle.mt_watch.proofs.ScopeLemmas.{same_scope_decides}

-- none of the first n watchers has the scope
abbrev pub LacksBelow : List Scope → Scope → ℕ → Type 0
LacksBelow scopes scope n = (i : ℕ) → i < n → IsScopeAt scopes scope i → ⊥

-- the first n watchers were asked, and none of the scope refused; this is the last notice
abbrev pub AreAsked : List Scope → Answering → Scope → List Entry → ℕ → Option (List Entry) → Type 0
AreAsked scopes may scope change n None = LacksBelow scopes scope n
AreAsked scopes may scope change n (Some notice) = (has_scope scopes scope ≡ true) × (notice ≡ notice_of scope change) × ((i : ℕ) → i < n → IsScopeAt scopes scope i → may i change (Ok (notice_of scope change)))

same_ok : {A E : Type 0} (r : Result A E) (x y : A) → r ≡ Ok x → r ≡ Ok y → x ≡ y
same_ok r x y p q = cc

err_not_ok : {A E : Type 0} (r : Result A E) (e : E) (x : A) → r ≡ Err e → r ≡ Ok x → ⊥
err_not_ok r e x p q = cc

pub has_scope_at : (scopes : List Scope) (scope : Scope) (i : ℕ) → IsScopeAt scopes scope i → has_scope scopes scope ≡ true
has_scope_at [] scope i here = cc
has_scope_at (x ∷ xs) scope zero here =
    let same : same_scope x scope ≡ true = (same_scope_decides x scope).1 (same_Some x scope here) in
    ap (λ b. b || has_scope xs scope) same
has_scope_at (x ∷ xs) scope (suc i) here =
    elim (same_scope x scope) as (λ b. (b || has_scope xs scope) ≡ true) [ true ↦ refl | false ↦ has_scope_at xs scope i here ]

pub number_of : (scopes : List Scope) (scope : Scope) → has_scope scopes scope ≡ true → (i : ℕ) × IsScopeAt scopes scope i
number_of [] scope has = cc
number_of (x ∷ xs) scope has =
    elim (same_scope x scope) as (λ b. same_scope x scope ≡ b → (b || has_scope xs scope) ≡ true → (i : ℕ) × IsScopeAt (x ∷ xs) scope i) [
      | true ↦ λ same _. (zero, ap Some ((same_scope_decides x scope).0 same))
      | false ↦ λ _ others. let found = number_of xs scope others in (suc found.0, found.1)
    ] refl has

pub lacks_scope : (scopes : List Scope) (scope : Scope) → ((i : ℕ) → i < length scopes → IsScopeAt scopes scope i → ⊥) → has_scope scopes scope ≡ false
lacks_scope [] scope none = refl
lacks_scope (x ∷ xs) scope none =
    let differs : same_scope x scope ≡ false = false_from_ne_true (same_scope x scope) (λ same. none zero (omega arith) (ap Some ((same_scope_decides x scope).0 same))) in
    ap (λ b. b || has_scope xs scope) differs ∙ lacks_scope xs scope (λ i below here. none (suc i) (omega (arith, below)) here)

pub lacks_scope-from : (scopes : List Scope) (scope : Scope) (n : ℕ) → length scopes ≤ n → LacksBelow scopes scope n → has_scope scopes scope ≡ false
lacks_scope-from scopes scope n end lacks = lacks_scope scopes scope (λ i below. lacks i (omega arith))

not_here : (scopes : List Scope) (scope other : Scope) (n : ℕ) → slice_get scopes n ≡ Some other → same_scope other scope ≡ false → IsScopeAt scopes scope n → ⊥
not_here scopes scope other n at differs here =
    true≢false (sym ((same_scope_decides other scope).1 (same_Some other scope (sym at ∙ here))) ∙ differs)

pub LacksBelow-skip : (scopes : List Scope) (scope other : Scope) (n : ℕ) → slice_get scopes n ≡ Some other → same_scope other scope ≡ false → LacksBelow scopes scope n → LacksBelow scopes scope (n + 1)
LacksBelow-skip scopes scope other n at differs lacks =
    below_more (λ i. IsScopeAt scopes scope i → ⊥) n lacks (not_here scopes scope other n at differs)

-- one more, of another scope
pub AreAsked-skip : (scopes : List Scope) (may : Answering) (scope other : Scope) (change : List Entry) (n : ℕ) (told : Option (List Entry)) → slice_get scopes n ≡ Some other → same_scope other scope ≡ false → AreAsked scopes may scope change n told → AreAsked scopes may scope change (n + 1) told
AreAsked-skip scopes may scope other change n None at differs lacks = LacksBelow-skip scopes scope other n at differs lacks
AreAsked-skip scopes may scope other change n (Some notice) at differs so_far =
    (so_far.0, so_far.1, below_more (λ i. IsScopeAt scopes scope i → may i change (Ok (notice_of scope change))) n so_far.2 (λ here. absurd (not_here scopes scope other n at differs here)))

-- what was answered before
answered : (scopes : List Scope) (may : Answering) (scope : Scope) (change : List Entry) (n : ℕ) (told : Option (List Entry)) → AreAsked scopes may scope change n told → (i : ℕ) → i < n → IsScopeAt scopes scope i → may i change (Ok (notice_of scope change))
answered scopes may scope change n None so_far i below here = absurd (so_far i below here)
answered scopes may scope change n (Some notice) so_far i below here = so_far.2 i below here

-- one more, of the scope
pub AreAsked-told : (scopes : List Scope) (may : Answering) (scope other : Scope) (change : List Entry) (n : ℕ) (told : Option (List Entry)) (notice : List Entry) → slice_get scopes n ≡ Some other → same_scope other scope ≡ true → notice ≡ notice_of other change → may n change (Ok notice) → AreAsked scopes may scope change n told → AreAsked scopes may scope change (n + 1) (Some notice)
AreAsked-told scopes may scope other change n told notice at same is answers so_far =
    let equal : other ≡ scope = (same_scope_decides other scope).0 same in
    let here : IsScopeAt scopes scope n = at ∙ ap Some equal in
    let notice_is : notice ≡ notice_of scope change = is ∙ ap (λ s. notice_of s change) equal in
    (has_scope_at scopes scope n here, notice_is, below_more (λ i. IsScopeAt scopes scope i → may i change (Ok (notice_of scope change))) n (answered scopes may scope change n told so_far) (λ _. subst (λ l. may n change (Ok l)) notice_is answers))

-- it refuses
pub IsRefusedAt-from : (scopes : List Scope) (may : Answering) (scope other : Scope) (change : List Entry) (n : ℕ) (told : Option (List Entry)) (fault : WatchFault) → slice_get scopes n ≡ Some other → same_scope other scope ≡ true → may n change (Err fault) → AreAsked scopes may scope change n told → IsRefusedAt scopes may scope change n
IsRefusedAt-from scopes may scope other change n told fault at same refuses so_far =
    record { here = at ∙ ap Some ((same_scope_decides other scope).0 same); refused = (fault, refuses); before = answered scopes may scope change n told so_far }

-- all were asked
pub IsTold-from : (scopes : List Scope) (may : Answering) (scope : Scope) (change notice : List Entry) (n : ℕ) → length scopes ≤ n → AreAsked scopes may scope change n (Some notice) → IsTold scopes may scope change notice
IsTold-from scopes may scope change notice n end so_far =
    record { has = so_far.0; notice = so_far.1; each = λ i here. subst (λ l. may i change (Ok l)) (sym so_far.1) (so_far.2 i (let within : i < length scopes = slice_get_within scopes i scope here in omega arith) here) }

-- ---- one watcher's turn, where what it may answer is what the relation says of its number

-- where it goes on
pub AreAsked-one : (scopes : List Scope) (may : Answering) (scope own : Scope) (change : List Entry) (n : ℕ) (told after : Option (List Entry)) (mine : Result (List Entry) WatchFault → Type 0) → ((answer : Result (List Entry) WatchFault) → mine answer → may n change answer) → slice_get scopes n ≡ Some own → AsksOne own mine n scope change told (Ok after) → AreAsked scopes may scope change n told → AreAsked scopes may scope change (n + 1) after
AreAsked-one scopes may scope own change n told after mine is_mine at one so_far =
    elim (same_scope own scope) as (λ b. same_scope own scope ≡ b → AsksOneWhere b mine n (notice_of own change) told (Ok after) → AreAsked scopes may scope change (n + 1) after) [
      | true ↦ λ same turn. elim after as (λ t. AsksOfScope mine n (notice_of own change) (Ok t) → AreAsked scopes may scope change (n + 1) t) [
        | None ↦ λ none. absurd none
        | Some notice ↦ λ is. AreAsked-told scopes may scope own change n told notice at same is.0 (is_mine (Ok notice) is.1) so_far
      ] turn
      | false ↦ λ differs turn. subst (AreAsked scopes may scope change (n + 1)) (sym (same_ok (Ok after) after told refl turn)) (AreAsked-skip scopes may scope own change n told at differs so_far)
    ] refl one

-- where it ends the asking
pub AsksEach-refused : (scopes : List Scope) (may : Answering) (scope own : Scope) (change : List Entry) (n : ℕ) (told : Option (List Entry)) (fault : WatchersFault) (mine : Result (List Entry) WatchFault → Type 0) → ((answer : Result (List Entry) WatchFault) → mine answer → may n change answer) → slice_get scopes n ≡ Some own → AsksOne own mine n scope change told (Err fault) → AreAsked scopes may scope change n told → AsksEach scopes may scope change (Err fault)
AsksEach-refused scopes may scope own change n told fault mine is_mine at one so_far =
    elim (same_scope own scope) as (λ b. same_scope own scope ≡ b → AsksOneWhere b mine n (notice_of own change) told (Err fault) → AsksEach scopes may scope change (Err fault)) [
      | true ↦ λ same turn. subst (λ f. AsksEach scopes may scope change (Err f)) (sym turn.0) (IsRefusedAt-from scopes may scope own change n told turn.1.0 at same (is_mine (Err turn.1.0) turn.1.1) so_far)
      | false ↦ λ differs turn. absurd (err_not_ok (Err fault) fault told refl turn)
    ] refl one

-- ---- the watchers of a list that is read

module _ {W : Type 0} (scope_of : W → Scope) (xs read : List W) (is : read ≡ xs) where
  -- the watcher of a number
  pub watcher_at : (n : ℕ) (item : W) → n < length read → item ≡ slice_index_or read n item → slice_get xs n ≡ Some item
  watcher_at n item within at = subst (λ ys. slice_get ys n ≡ Some item) is (slice_get_read read (length read) n item refl within at)

  pub scope_at : (n : ℕ) (item : W) → n < length read → item ≡ slice_index_or read n item → slice_get (map scope_of xs) n ≡ Some (scope_of item)
  scope_at n item within at = slice_get-map scope_of xs n ∙ ap (option_map scope_of) (watcher_at n item within at)

  -- behind the last
  pub scopes_end : (n : ℕ) → length read ≤ n → length (map scope_of xs) ≤ n
  scopes_end n end = let all = ap length is in simp length-map (omega arith)

  module _ (may_answer : W → List Entry → Result (List Entry) WatchFault → Type 0) (scope : Scope) (change : List Entry) (n : ℕ) (item : W) (told : Option (List Entry))
      (within : n < length read) (at : item ≡ slice_index_or read n item) (so_far : AreAsked (map scope_of xs) (by_number xs may_answer) scope change n told) where
    -- the next one's turn
    pub AreAsked-next : (after : Option (List Entry)) → AsksOne (scope_of item) (may_answer item change) n scope change told (Ok after) → AreAsked (map scope_of xs) (by_number xs may_answer) scope change (n + 1) after
    AreAsked-next after one =
        AreAsked-one (map scope_of xs) (by_number xs may_answer) scope (scope_of item) change n told after (may_answer item change) (λ answer m. (item, watcher_at n item within at, m)) (scope_at n item within at) one so_far

    pub AsksEach-next : (fault : WatchersFault) → AsksOne (scope_of item) (may_answer item change) n scope change told (Err fault) → AsksEach (map scope_of xs) (by_number xs may_answer) scope change (Err fault)
    AsksEach-next fault one =
        AsksEach-refused (map scope_of xs) (by_number xs may_answer) scope (scope_of item) change n told fault (may_answer item change) (λ answer m. (item, watcher_at n item within at, m)) (scope_at n item within at) one so_far
