-- Sets of tablet types, as they are read and written.
use Rattle.std.proofs.Common.{◌≡◌, ◌≢◌, ℕ, ◌<◌, zero, suc, ◌⊎◌, inl, inr, Bool, true, false, ◌||◌, List, [], ◌∷◌, ◌++◌, length, take, drop, get_or, drop-cons, map, fold, Result, Ok, Err, IsOk, IsTrue, ◌↔◌, refl, sym, ap, ◌∙◌, subst, is_ok, arith, ⊎_elim, eqb, codes, rules}
use Rattle.std.proofs.lemmas.Bool.{true≢false, cases_Bool}
use Rattle.std.proofs.lemmas.Grind.{common_steps}
use Rattle.std.proofs.lemmas.List.{length-map, take-append-drop}
use Rattle.std.proofs.lemmas.List.Elements.{All-from_recursion, All-nil, All-cons, All-head}
use Rattle.std.proofs.lemmas.List.Kept.{AllPairs-cons}
use Rattle.std.proofs.lemmas.List.Splits.{slice_split_none, slice_split_at, length-slice_split, join_with_byte-slice_split}
use Rattle.std.proofs.lemmas.List.Sums.{fold-append}
use Rattle.std.specs.Cmp.Lexicographic.{same_text as from_same}
use Rattle.std.specs.List.{All, AllPairs, Contains, slice_split, join_with_byte}
use Rattle.mt_names.specs.declared.fault.NameFault.{NameFault}
use Rattle.mt_names.specs.declared.fault.NameFault.TheVariants.{Repeated}
use Rattle.mt_names.specs.declared.types.TabletType.{TabletType}
use Rattle.mt_names.specs.declared.types.TabletType.TheVariants.{Primary, Replica, Rdonly}
use Rattle.mt_names.specs.declared.types.TypeSet.{TypeSet}
use Rattle.mt_names.specs.Names.{same_text}
use Rattle.mt_names.specs.Types.{comma, type_text, read_type, has, no_types, with_type, set_of, list_text, IsTypeSetText, all, none, listed, with_word, read_words, read_type_set}
use Rattle.mt_names.proofs.ResultLemmas.{accepts}

-- two sets with the same members are equal
pub same_members : (S R : TypeSet) → ((t : TabletType) → has S t ≡ has R t) → S ≡ R
same_members S R same i = record { primary = same Primary i; replica = same Replica i; rdonly = same Rdonly i }

-- a set of no member
pub has_none : (S : TypeSet) → S.primary ≡ false → S.replica ≡ false → S.rdonly ≡ false → (t : TabletType) → has S t ≡ false
has_none S p q r Primary = p
has_none S p q r Replica = q
has_none S p q r Rdonly = r

has-no_types : (t : TabletType) → has no_types t ≡ false
has-no_types t = has_none no_types refl refl refl t

cases_type : (s t : TabletType) → (s ≡ t) ⊎ (s ≢ t)
cases_type Primary Primary = inl refl
cases_type Primary Replica = inr (λ e. cc)
cases_type Primary Rdonly = inr (λ e. cc)
cases_type Replica Primary = inr (λ e. cc)
cases_type Replica Replica = inl refl
cases_type Replica Rdonly = inr (λ e. cc)
cases_type Rdonly Primary = inr (λ e. cc)
cases_type Rdonly Replica = inr (λ e. cc)
cases_type Rdonly Rdonly = inl refl

has-with_type_same : (S : TypeSet) (t : TabletType) → has (with_type S t) t ≡ true
has-with_type_same S Primary = refl
has-with_type_same S Replica = refl
has-with_type_same S Rdonly = refl

has-with_type_other : (S : TypeSet) (s t : TabletType) → s ≢ t → has (with_type S s) t ≡ has S t
has-with_type_other S Primary Primary ne = absurd (ne refl)
has-with_type_other S Primary Replica ne = refl
has-with_type_other S Primary Rdonly ne = refl
has-with_type_other S Replica Primary ne = refl
has-with_type_other S Replica Replica ne = absurd (ne refl)
has-with_type_other S Replica Rdonly ne = refl
has-with_type_other S Rdonly Primary ne = refl
has-with_type_other S Rdonly Replica ne = refl
has-with_type_other S Rdonly Rdonly ne = absurd (ne refl)

-- a set joined with that of one type alone
pub with_type-from_union : (S R U : TypeSet) (t : TabletType) → ((s : TabletType) → has U s ≡ (has S s || has R s)) → ((s : TabletType) → IsTrue (has R s) ↔ (s ≡ t)) → U ≡ with_type S t
with_type-from_union S R U t union only = same_members U (with_type S t) (λ s. ⊎_elim (same s) (other s) (cases_type t s))
  where
    same : (s : TabletType) → t ≡ s → has U s ≡ has (with_type S t) s
    same s e = let one : has R s ≡ true = (only s).1 (sym e) in let a = union s in subst (λ u. has U u ≡ has (with_type S t) u) e (let b : has R t ≡ true = (only t).1 refl in let c = union t in let d = has-with_type_same S t in grind (arith, common_steps, b, c, d))

    other : (s : TabletType) → t ≢ s → has U s ≡ has (with_type S t) s
    other s ne = ⊎_elim (λ yes. absurd (ne (sym ((only s).0 yes)))) (λ none. let a = union s in let d = has-with_type_other S t s ne in grind (arith, common_steps, a, d, none)) (cases_Bool (has R s))

-- what is spelled as a type is read as it, and nothing else is
pub read_type-type_text : (t : TabletType) → read_type (type_text t) ≡ Ok t
read_type-type_text Primary = refl
read_type-type_text Replica = refl
read_type-type_text Rdonly = refl

pub text_from_read_type : (word : List ℕ) (t : TabletType) → read_type word ≡ Ok t → word ≡ type_text t
text_from_read_type word t e = by (same_text word (type_text Primary)) refl (same_text word (type_text Replica)) refl (same_text word (type_text Rdonly)) refl
  where
    as_type : (s : TabletType) → true ≡ same_text word (type_text s) → s ≡ t → word ≡ type_text t
    as_type s same e = from_same word (type_text s) same ∙ ap type_text e

    by : (p : Bool) → same_text word (type_text Primary) ≡ p → (q : Bool) → same_text word (type_text Replica) ≡ q → (r : Bool) → same_text word (type_text Rdonly) ≡ r → word ≡ type_text t
    by true p q replica r rdonly = as_type Primary (sym p) (let h = rw p at e in cc)
    by false p true q r rdonly = as_type Replica (sym q) (let h = rw (p, q) at e in cc)
    by false p false q true r = as_type Rdonly (sym r) (let h = rw (p, q, r) at e in cc)
    by false p false q false r = absurd (let h = rw (p, q, r) at e in cc)

-- a fault stays
pub fold-fault : (fault : NameFault) (words : List (List ℕ)) → fold with_word (Err fault) words ≡ Err fault
fold-fault fault [] = refl
fold-fault fault (word ∷ words) = fold-fault fault words

-- the first word in fault decides
pub read_words-fault : (words so_far : List (List ℕ)) (n : ℕ) (word : List ℕ) (S : TypeSet) (fault : NameFault) → so_far ≡ take n words → n < length words → word ≡ get_or words n word → read_words so_far ≡ Ok S → with_word (Ok S) word ≡ Err fault → read_words words ≡ Err fault
read_words-fault words so_far n word S fault taken within is read bad =
    let cut : words ≡ so_far ++ word ∷ drop (suc n) words = sym (take-append-drop n words) ∙ ap (λ l. take n words ++ l) (drop-cons words n word within) ∙ ap (λ l. l ++ get_or words n word ∷ drop (suc n) words) (sym taken) ∙ ap (λ w. so_far ++ w ∷ drop (suc n) words) (sym is) in
    ap read_words cut ∙ fold-append with_word (Ok no_types) so_far (word ∷ drop (suc n) words) ∙ ap (λ r. fold with_word (with_word r word) (drop (suc n) words)) read ∙ ap (λ r. fold with_word r (drop (suc n) words)) bad ∙ fold-fault fault (drop (suc n) words)

-- types that the set lacks, none twice, are read into it
pub with_word-read : (S R U : TypeSet) (word : List ℕ) (t : TabletType) → read_type word ≡ Ok t → has S t ≡ false → ((s : TabletType) → has U s ≡ (has S s || has R s)) → ((s : TabletType) → IsTrue (has R s) ↔ (s ≡ t)) → with_word (Ok S) word ≡ Ok U
with_word-read S R U word t is lacks union only = rw (is, lacks) (ap Ok (sym (with_type-from_union S R U t union only)))

with_word-new : (S : TypeSet) (t : TabletType) → has S t ≡ false → with_word (Ok S) (type_text t) ≡ Ok (with_type S t)
with_word-new S t new = rw (read_type-type_text t, new)

with_word-stood : (S : TypeSet) (t : TabletType) → has S t ≡ true → with_word (Ok S) (type_text t) ≡ Err Repeated
with_word-stood S t stood = rw (read_type-type_text t, stood)

read_new : (S : TypeSet) (types : List TabletType) → AllPairs (λ s t. s ≢ t) types → All (λ t. has S t ≡ false) types → fold with_word (Ok S) (map type_text types) ≡ Ok (fold with_type S types)
read_new S [] distinct new = refl
read_new S (t ∷ ts) distinct new =
    ap (λ r. fold with_word r (map type_text ts)) (with_word-new S t (All-head (λ s. has S s ≡ false) t ts new))
    ∙ read_new (with_type S t) ts (λ i j d lt within. distinct (suc i) (suc j) d (omega arith) (omega arith))
    (λ k d within. has-with_type_other S t (get_or ts k d) (distinct 0 (suc k) d (omega arith) (omega arith)) ∙ new (suc k) d (omega arith))

-- how words are read into the set S as R: they are texts of types that it lacks, none twice
record AreRead (S : TypeSet) (words : List (List ℕ)) (R : TypeSet) : Type 0 where
  types : List TabletType
  texts : words ≡ map type_text types
  distinct : AllPairs (λ s t. s ≢ t) types
  new : All (λ t. has S t ≡ false) types
  set : R ≡ fold with_type S types

are_read : (S : TypeSet) (words : List (List ℕ)) (R : TypeSet) → fold with_word (Ok S) words ≡ Ok R → AreRead S words R
are_read S [] R e = record { types = []; texts = refl; distinct = λ i j d lt within. absurd (omega arith); new = All-nil (λ t. has S t ≡ false); set = cc }
are_read S (word ∷ words) R e = by (λ t. are_read (with_type S t) words R) (read_type word) refl
  where
    with_first : (t : TabletType) → read_type word ≡ Ok t → has S t ≡ false → AreRead (with_type S t) words R → AreRead S (word ∷ words) R
    with_first t is lacks rest =
        let other : All (λ s. t ≢ s) rest.types = λ k d within same. true≢false (sym (has-with_type_same S t) ∙ ap (has (with_type S t)) same ∙ rest.new k d within) in
        record {
          types = t ∷ rest.types;
          texts = let first = text_from_read_type word t is in let others = rest.texts in cc;
          distinct = AllPairs-cons (λ s t. s ≢ t) t rest.types other rest.distinct;
          new = All-cons (λ s. has S s ≡ false) t rest.types lacks (λ k d within. sym (has-with_type_other S t (get_or rest.types k d) (other k d within)) ∙ rest.new k d within);
          set = rest.set;
        }

    of_type : ((t : TabletType) → fold with_word (Ok (with_type S t)) words ≡ Ok R → AreRead (with_type S t) words R) → (t : TabletType) → read_type word ≡ Ok t → (b : Bool) → has S t ≡ b → AreRead S (word ∷ words) R
    of_type rest t is true stood = absurd (let h = sym (fold-fault Repeated words) ∙ (rw (is, stood) at e) in cc)
    of_type rest t is false lacks = with_first t is lacks (rest t (rw (is, lacks) at e))

    by : ((t : TabletType) → fold with_word (Ok (with_type S t)) words ≡ Ok R → AreRead (with_type S t) words R) → (r : Result TabletType NameFault) → read_type word ≡ r → AreRead S (word ∷ words) R
    by rest (Ok t) is = of_type rest t is (has S t) refl
    by rest (Err fault) is = absurd (let h = sym (fold-fault fault words) ∙ (rw is at e) in cc)

-- types that are read into a set are those that it then has besides its own
set_from_read : (S : TypeSet) (types : List TabletType) (R : TypeSet) → fold with_word (Ok S) (map type_text types) ≡ Ok R → R ≡ fold with_type S types
set_from_read S [] R e = cc
set_from_read S (t ∷ ts) R e = by (set_from_read (with_type S t) ts R) (has S t) refl
  where
    by : (fold with_word (Ok (with_type S t)) (map type_text ts) ≡ Ok R → R ≡ fold with_type S (t ∷ ts)) → (b : Bool) → has S t ≡ b → R ≡ fold with_type S (t ∷ ts)
    by rest true stood = absurd (let h : Err Repeated ≡ Ok R = sym (fold-fault Repeated (map type_text ts)) ∙ (ap (λ r. fold with_word r (map type_text ts)) (sym (with_word-stood S t stood)) ∙ e) in cc)
    by rest false lacks = rest (ap (λ r. fold with_word r (map type_text ts)) (sym (with_word-new S t lacks)) ∙ e)

has-fold : (S : TypeSet) (types : List TabletType) (t : TabletType) → IsTrue (has (fold with_type S types) t) ↔ (IsTrue (has S t) ⊎ Contains types t)
has-fold S [] t = (λ yes. inl yes, λ found. ⊎_elim (λ yes. yes) (λ c. absurd (omega (arith, c.1))) found)
has-fold S (s ∷ ts) t =
    let rest = has-fold (with_type S s) ts t in (
      λ yes. ⊎_elim (λ now. from s now (cases_type s t)) (λ c. inr (suc c.0, omega (arith, c.1), c.2)) (rest.0 yes),
      λ found. rest.1 (⊎_elim (λ had. inl (keeps had (cases_type s t))) (λ c. at c.0 c.1 c.2) found),
    )
  where
    keeps : IsTrue (has S t) → (s ≡ t) ⊎ (s ≢ t) → IsTrue (has (with_type S s) t)
    keeps had (inl e) = ap (λ x. has (with_type S x) t) e ∙ has-with_type_same S t
    keeps had (inr ne) = has-with_type_other S s t ne ∙ had

    from : (s : TabletType) → IsTrue (has (with_type S s) t) → (s ≡ t) ⊎ (s ≢ t) → IsTrue (has S t) ⊎ Contains (s ∷ ts) t
    from s now (inl e) = inr (0, omega arith, e)
    from s now (inr ne) = inl (sym (has-with_type_other S s t ne) ∙ now)

    at : (k : ℕ) → k < length (s ∷ ts) → get_or (s ∷ ts) k t ≡ t → IsTrue (has (with_type S s) t) ⊎ Contains ts t
    at zero within e = inl (keeps_same e)
      where
        keeps_same : s ≡ t → IsTrue (has (with_type S s) t)
        keeps_same e = ap (λ x. has (with_type S x) t) e ∙ has-with_type_same S t
    at (suc k) within e = inr (k, omega arith, e)

-- a type's text has no comma, so a list of texts is cut where it was joined
no_comma : (t : TabletType) → All (λ b. eqb b comma ≡ false) (type_text t)
no_comma Primary = All-from_recursion (λ b. eqb b comma ≡ false) (type_text Primary) (search rules)
no_comma Replica = All-from_recursion (λ b. eqb b comma ≡ false) (type_text Replica) (search rules)
no_comma Rdonly = All-from_recursion (λ b. eqb b comma ≡ false) (type_text Rdonly) (search rules)

slice_split-list_text : (t : TabletType) (ts : List TabletType) → slice_split (λ b. eqb b comma) (list_text (t ∷ ts)) ≡ map type_text (t ∷ ts)
slice_split-list_text t [] = slice_split_none (λ b. eqb b comma) (type_text t) (no_comma t)
slice_split-list_text t (u ∷ us) =
    slice_split_at (λ b. eqb b comma) (type_text t) comma (list_text (u ∷ us)) (no_comma t) refl ∙ ap (λ words. type_text t ∷ words) (slice_split-list_text u us)

-- and it is none of the texts that stand for themselves
read_type_set-list_text : (t : TabletType) (ts : List TabletType) → read_type_set (list_text (t ∷ ts)) ≡ read_words (map type_text (t ∷ ts))
read_type_set-list_text t ts = words t ts ∙ ap read_words (slice_split-list_text t ts)
  where
    words : (t : TabletType) (ts : List TabletType) → read_type_set (list_text (t ∷ ts)) ≡ read_words (slice_split (λ b. eqb b comma) (list_text (t ∷ ts)))
    words Primary [] = refl
    words Primary (u ∷ us) = refl
    words Replica [] = refl
    words Replica (u ∷ us) = refl
    words Rdonly [] = refl
    words Rdonly (u ∷ us) = refl

pub list_is_read : (types : List TabletType) → 0 < length types → AllPairs (λ s t. s ≢ t) types → read_type_set (list_text types) ≡ Ok (set_of types)
list_is_read [] some distinct = absurd (omega arith)
list_is_read (t ∷ ts) some distinct = read_type_set-list_text t ts ∙ read_new no_types (t ∷ ts) distinct (λ k d within. has-no_types (get_or (t ∷ ts) k d))

pub only_listed : (types : List TabletType) (set : TypeSet) → read_type_set (list_text types) ≡ Ok set → (t : TabletType) → IsTrue (has set t) ↔ Contains types t
only_listed [] set e t = absurd (cc)
only_listed (u ∷ us) set e t =
    let is : set ≡ fold with_type no_types (u ∷ us) = set_from_read no_types (u ∷ us) set (sym (read_type_set-list_text u us) ∙ e) in
    let both = has-fold no_types (u ∷ us) t in (
      λ yes. ⊎_elim (λ had. absurd (true≢false (sym had ∙ has-no_types t))) (λ c. c) (both.0 (subst (λ R. IsTrue (has R t)) is yes)),
      λ c. subst (λ R. IsTrue (has R t)) (sym is) (both.1 (inr c)),
    )

-- a text is read exactly where it follows the grammar
pub read_accepts : (bytes : List ℕ) (r : Result TypeSet NameFault) → r ≡ read_type_set bytes → IsOk r ↔ IsTypeSetText bytes
read_accepts bytes r e = accepts (IsTypeSetText bytes) (read_type_set bytes) r e (λ R is. from_ok R (sym is)) (is_read bytes)
  where
    is_read : (bytes : List ℕ) → IsTypeSetText bytes → IsOk (read_type_set bytes)
    is_read bytes (all is) = ap (λ b. is_ok (read_type_set b)) is
    is_read bytes (none is) = ap (λ b. is_ok (read_type_set b)) is
    is_read bytes (listed types some distinct is) = ap (λ b. is_ok (read_type_set b)) is ∙ ap is_ok (list_is_read types some distinct)

    from_words : (R : TypeSet) → AreRead no_types (slice_split (λ b. eqb b comma) bytes) R → IsTypeSetText bytes
    from_words R read =
        let some : 0 < length read.types = omega (arith, length-slice_split (λ b. eqb b comma) bytes, ap length read.texts, length-map read.types type_text) in
        listed read.types some read.distinct (sym (join_with_byte-slice_split comma bytes) ∙ ap (join_with_byte comma) read.texts)

    from_ok : (R : TypeSet) → Ok R ≡ read_type_set bytes → IsTypeSetText bytes
    from_ok R e = by (same_text bytes []) refl (same_text bytes (codes "all")) refl (same_text bytes (codes "-")) refl
      where
        by : (p : Bool) → same_text bytes [] ≡ p → (q : Bool) → same_text bytes (codes "all") ≡ q → (s : Bool) → same_text bytes (codes "-") ≡ s → IsTypeSetText bytes
        by true p q is_all s is_none = absurd (let h = rw p at e in cc)
        by false p true is_all s is_none = all (from_same bytes (codes "all") (sym is_all))
        by false p false is_all true is_none = none (from_same bytes (codes "-") (sym is_none))
        by false p false is_all false is_none = from_words R (are_read no_types (slice_split (λ b. eqb b comma) bytes) R (sym (rw (p, is_all, is_none) at e)))
