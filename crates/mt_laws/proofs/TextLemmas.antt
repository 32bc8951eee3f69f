-- Texts without a line feed.
use Rattle.std.proofs.Common.{◌≡◌, ◌≢◌, ℕ, zero, suc, ◌+◌, ◌/◌, ◌%◌, Bool, true, false, not, cond, eqb, ltb, List, [], ◌∷◌, ◌++◌, codes, refl, sym, ap, arith}
use Rattle.std.proofs.lemmas.Bool.{true≢false, ne_eqb, and_from, and_parts}
use Rattle.std.proofs.lemmas.List.Sums.{sum_by-append, sum_by-cons, sum_by_push}
use Rattle.std.specs.Fmt.{digit_glyph, digits_onto}
use Rattle.std.specs.List.{AllByRecursion, join_with_byte, list_all, onto_first, slice_split}
use Rattle.mt_model.specs.Documents.{array, member, object, quoted}
use Rattle.mt_plain.specs.Numbers.{number_text}
use Rattle.mt_plain.specs.Output.{line_feed}
use Rattle.mt_names.specs.Types.{comma}
use Rattle.mt_laws.specs.Lines.{line_feeds}
use Rattle.mt_laws.proofs.ListLemmas.{cond-either}

-- a byte that is no line feed
abbrev pub is_other : ℕ → Bool
is_other byte = not (eqb byte 10)

-- no byte is a line feed
pub record NoFeed (bytes : List ℕ) : Type 0 where
  pub all : list_all is_other bytes ≡ true

-- ---- how it is made

pub no_feed-nil : NoFeed []
no_feed-nil = record { all = refl }

pub no_feed-cons : (b : ℕ) (bs : List ℕ) → is_other b ≡ true → NoFeed bs → NoFeed (b ∷ bs)
no_feed-cons b bs first others = record { all = and_from (is_other b) (list_all is_other bs) first others.all }

pub no_feed-first : (b : ℕ) (bs : List ℕ) → NoFeed (b ∷ bs) → is_other b ≡ true
no_feed-first b bs none = (and_parts (is_other b) (list_all is_other bs) none.all).0

pub no_feed-others : (b : ℕ) (bs : List ℕ) → NoFeed (b ∷ bs) → NoFeed bs
no_feed-others b bs none = record { all = (and_parts (is_other b) (list_all is_other bs) none.all).1 }

pub no_feed-append : (xs ys : List ℕ) → NoFeed xs → NoFeed ys → NoFeed (xs ++ ys)
no_feed-append [] ys first second = second
no_feed-append (x ∷ xs) ys first second =
    no_feed-cons x (xs ++ ys) (no_feed-first x xs first) (no_feed-append xs ys (no_feed-others x xs first) second)

pub no_feed-byte : (b : ℕ) → is_other b ≡ true → NoFeed (b ∷ [])
no_feed-byte b is = no_feed-cons b [] is no_feed-nil

pub no_feed-join : (b : ℕ) (texts : List (List ℕ)) → is_other b ≡ true → AllByRecursion NoFeed texts → NoFeed (join_with_byte b texts)
no_feed-join b [] is all = no_feed-nil
no_feed-join b (x ∷ []) is all = all.0
no_feed-join b (x ∷ y ∷ xs) is all =
    no_feed-append x (b ∷ join_with_byte b (y ∷ xs)) all.0 (no_feed-cons b (join_with_byte b (y ∷ xs)) is (no_feed-join b (y ∷ xs) is all.1))

-- ---- parts

no_feed-onto_first : (b : ℕ) (parts : List (List ℕ)) → is_other b ≡ true → AllByRecursion NoFeed parts → AllByRecursion NoFeed (onto_first b parts)
no_feed-onto_first b [] is all = (no_feed-byte b is, tt)
no_feed-onto_first b (part ∷ parts) is all = (no_feed-cons b part is all.0, all.1)

pub no_feed-slice_split : (test : ℕ → Bool) (line : List ℕ) → NoFeed line → AllByRecursion NoFeed (slice_split test line)
no_feed-slice_split test [] none = (no_feed-nil, tt)
no_feed-slice_split test (b ∷ bs) none =
    let again = no_feed-slice_split test bs (no_feed-others b bs none) in
    cond-either (AllByRecursion NoFeed) (test b) ([] ∷ slice_split test bs) (onto_first b (slice_split test bs)) (no_feed-nil, again) (no_feed-onto_first b (slice_split test bs) (no_feed-first b bs none) again)

-- ---- numbers

glyph-other : (d : ℕ) → is_other (digit_glyph false d) ≡ true
glyph-other d = cond-either (λ g. is_other g ≡ true) (ltb d 10) (48 + d) (87 + d) (other (48 + d) (λ e. omega arith)) (other (87 + d) (λ e. omega arith))
  where
    other : (g : ℕ) → g ≢ 10 → is_other g ≡ true
    other g differs = ap not (ne_eqb g 10 differs)

digits-no_feed : (k n : ℕ) (after : List ℕ) → NoFeed after → NoFeed (digits_onto k 10 false n after)
digits-no_feed zero n after none = none
digits-no_feed (suc k) n after none =
    let more = digit_glyph false (n % 10) ∷ after in
    let is = no_feed-cons (digit_glyph false (n % 10)) after (glyph-other (n % 10)) none in
    cond-either NoFeed (eqb (n / 10) 0) more (digits_onto k 10 false (n / 10) more) is (digits-no_feed k (n / 10) more is)

pub no_feed-number : (n : ℕ) → NoFeed (number_text n)
no_feed-number n = digits-no_feed 64 n [] no_feed-nil

-- ---- JSON

pub no_feed-quoted : (text : List ℕ) → NoFeed text → NoFeed (quoted text)
no_feed-quoted text none = no_feed-cons 34 (text ++ 34 ∷ []) refl (no_feed-append text (34 ∷ []) none (no_feed-byte 34 refl))

pub no_feed-member : (name value : List ℕ) → NoFeed name → NoFeed value → NoFeed (member name value)
no_feed-member name value first second =
    no_feed-append (quoted name ++ codes ":") value (no_feed-append (quoted name) (codes ":") (no_feed-quoted name first) (record { all = refl })) second

pub no_feed-array : (items : List (List ℕ)) → AllByRecursion NoFeed items → NoFeed (array items)
no_feed-array items all =
    no_feed-append (codes "[") (join_with_byte comma items ++ codes "]") (record { all = refl })
    (no_feed-append (join_with_byte comma items) (codes "]") (no_feed-join comma items refl all) (record { all = refl }))

pub no_feed-object : (members : List (List ℕ)) → AllByRecursion NoFeed members → NoFeed (object members)
no_feed-object members all =
    no_feed-append (codes "{") (join_with_byte comma members ++ codes "}") (record { all = refl })
    (no_feed-append (join_with_byte comma members) (codes "}") (no_feed-join comma members refl all) (record { all = refl }))

-- ---- counted

abbrev is_feed : ℕ → ℕ
is_feed byte = cond (eqb byte 10) 1 0

zero_of : (t : Bool) → not t ≡ true → cond {A = ℕ} t 1 0 ≡ 0
zero_of true e = absurd (true≢false (sym e))
zero_of false e = refl

pub line_feeds-none : (bytes : List ℕ) → NoFeed bytes → line_feeds bytes ≡ 0
line_feeds-none [] none = refl
line_feeds-none (b ∷ bs) none =
    let first : line_feeds (b ∷ bs) ≡ is_feed b + line_feeds bs = sum_by-cons is_feed b bs in
    let is_none : is_feed b ≡ 0 = zero_of (eqb b 10) (no_feed-first b bs none) in
    let again : line_feeds bs ≡ 0 = line_feeds-none bs (no_feed-others b bs none) in
    omega arith

-- a text in a line of its own
pub line_feeds-line : (text rest : List ℕ) → NoFeed text → line_feeds (text ++ line_feed ++ rest) ≡ 1 + line_feeds rest
line_feeds-line text rest none =
    let parts : line_feeds (text ++ line_feed ++ rest) ≡ line_feeds (text ++ line_feed) + line_feeds rest = sum_by-append is_feed (text ++ line_feed) rest in
    let first : line_feeds (text ++ line_feed) ≡ line_feeds text + 1 = sum_by_push is_feed text 10 in
    let is_none : line_feeds text ≡ 0 = line_feeds-none text none in
    omega arith
