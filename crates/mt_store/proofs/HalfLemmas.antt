-- A page of 64 rows cut in halves: the rows stay, and where one fits in one of the halves.
use Rattle.std.proofs.Common.{◌≡◌, ℕ, suc, zero, ◌+◌, ◌-◌, ◌<◌, ◌≤◌, Bool, true, false, List, [], ◌∷◌, ◌++◌, length, take, drop, slice_set, slice_index_or, nat_le, if◌then◌else◌, refl, sym, ap, subst, ◌∙◌, arith}
use Rattle.std.proofs.lemmas.Bool.{leb-true, leb-false}
use Rattle.std.proofs.lemmas.List.{append_assoc, drop-drop, append-nil, take_at, drop_at, take-append-le, drop-append-le, drop-set-lt, take-append-drop, length-drop, length-take-le}
use Rattle.std.proofs.Math.Seq.{take-add, take-suc-set}
use Rattle.std.specs.List.{insert}
use Rattle.mt_store.specs.Pages.{AreAbove, AreBelow, AreInOrder, ArePages, FitsAt, Rows, halved, in_half, page_at, rows_in}
use Rattle.mt_store.specs.declared.pages.Spot.{Spot}
use Rattle.mt_store.proofs.PagesLemmas.{at-found, rows-append, rows-page, sizes-append, sizes-drop, sizes-take}

pub rows-halved : (pages : List Rows) (place : ℕ) → place < length pages → rows_in (halved pages place) ≡ rows_in pages
rows-halved pages place within =
    let page : Rows = page_at pages place in
    let back : Rows = rows_in (drop (place + 1) pages) in
    rows-append (take place pages) (take 32 page ∷ drop 32 page ∷ drop (place + 1) pages)
    ∙ ap (λ rows. rows_in (take place pages) ++ rows) (sym (append_assoc (take 32 page) (drop 32 page) back) ∙ ap (λ rows. rows ++ back) (take-append-drop 32 page))
    ∙ sym (rows-page pages place within)

module _ (pages : List Rows) (place : ℕ) (within : place < length pages) (full : length (page_at pages place) ≡ 64) where
  abbrev page : Rows
  page = page_at pages place

  abbrev behind : List Rows
  behind = drop (place + 1) pages

  front-length : length (take place pages) ≡ place
  front-length = length-take-le place pages (omega arith)

  half-length : length (take 32 page) ≡ 32
  half-length = length-take-le 32 page (omega (arith, full))

  rest-length : length (drop 32 page) ≡ 32
  rest-length = let n = length-drop 32 page in omega (arith, full, n)

  take-place : take place (halved pages place) ≡ take place pages
  take-place = take_at (take place pages) (take 32 page ∷ drop 32 page ∷ behind) place front-length

  drop-place : drop place (halved pages place) ≡ take 32 page ∷ drop 32 page ∷ behind
  drop-place = drop_at (take place pages) (take 32 page ∷ drop 32 page ∷ behind) place front-length

  at-drop : (xs : List Rows) (n : ℕ) → page_at xs n ≡ page_at (drop n xs) 0
  at-drop [] zero = refl
  at-drop [] (suc n) = refl
  at-drop (x ∷ xs) zero = refl
  at-drop (x ∷ xs) (suc n) = at-drop xs n

  drop-next : drop (place + 1) (halved pages place) ≡ drop 32 page ∷ behind
  drop-next = sym (drop-drop 1 place (halved pages place)) ∙ ap (drop 1) drop-place

  drop-second : drop (place + 1 + 1) (halved pages place) ≡ behind
  drop-second = sym (drop-drop 1 (place + 1) (halved pages place)) ∙ ap (drop 1) drop-next

  first-half : page_at (halved pages place) place ≡ take 32 page
  first-half = at-drop (halved pages place) place ∙ ap (λ xs. page_at xs 0) drop-place

  second-half : page_at (halved pages place) (place + 1) ≡ drop 32 page
  second-half = at-drop (halved pages place) (place + 1) ∙ ap (λ xs. page_at xs 0) drop-next

  take-next : take (place + 1) (halved pages place) ≡ take place pages ++ take 32 page ∷ []
  take-next = take-add place 1 (halved pages place) ∙ ap (λ xs. xs ++ take 1 (drop place (halved pages place))) take-place ∙ ap (λ xs. take place pages ++ take 1 xs) drop-place

  length-halved : length (halved pages place) ≡ suc (length pages)
  length-halved = by pages place within
    where
      by : (ps : List Rows) (n : ℕ) → n < length ps → length (take n ps ++ take 32 page ∷ drop 32 page ∷ drop (n + 1) ps) ≡ suc (length ps)
      by [] n w = absurd (omega arith)
      by (p ∷ ps) zero w = refl
      by (p ∷ ps) (suc n) w = let next : suc n + 1 ≡ suc (n + 1) = omega arith in rw next (ap suc (by ps n (omega arith)))

  pub are-halved : ArePages pages → ArePages (halved pages place)
  are-halved are = record {
    sizes = sizes-append (take place pages) (take 32 page ∷ drop 32 page ∷ behind) (sizes-take pages place are.sizes)
        ((omega (arith, half-length), omega (arith, half-length)), ((omega (arith, rest-length), omega (arith, rest-length)), sizes-drop pages (place + 1) are.sizes));
    ordered = subst AreInOrder (sym (rows-halved pages place within)) are.ordered;
  }

  -- where a row fits in one of the halves
  module _ (key at : ℕ) (fits : FitsAt pages key (record { page = place; at = at })) where
    below : AreBelow key (rows_in (take place pages) ++ take at page)
    below = fits.before

    above : AreAbove key (drop at page ++ rows_in behind)
    above = fits.behind

    fits-first : at ≤ 32 → FitsAt (halved pages place) key (record { page = place; at = at })
    fits-first low = record {
      page = omega (arith, length-halved);
      at = rw first-half (omega (arith, half-length));
      before = rw (take-place, first-half) (subst (λ rows. AreBelow key (rows_in (take place pages) ++ rows)) took below);
      behind = rw (first-half, drop-next) (subst (AreAbove key) dropped above);
    }
      where
        took : take at page ≡ take at (take 32 page)
        took = ap (take at) (sym (take-append-drop 32 page)) ∙ take-append-le at (take 32 page) (drop 32 page) (omega (arith, half-length))

        dropped : drop at page ++ rows_in behind ≡ drop at (take 32 page) ++ (drop 32 page ++ rows_in behind)
        dropped = ap (λ rows. rows ++ rows_in behind) (ap (drop at) (sym (take-append-drop 32 page)) ∙ drop-append-le at (take 32 page) (drop 32 page) (omega (arith, half-length)))
            ∙ append_assoc (drop at (take 32 page)) (drop 32 page) (rows_in behind)

    took-more : 32 ≤ at → take at page ≡ take 32 page ++ take (at - 32) (drop 32 page)
    took-more high = let sum : 32 + (at - 32) ≡ at = omega arith in ap (λ n. take n page) (sym sum) ∙ take-add 32 (at - 32) page

    dropped-more : 32 ≤ at → drop at page ≡ drop (at - 32) (drop 32 page)
    dropped-more high = let sum : 32 + (at - 32) ≡ at = omega arith in ap (λ n. drop n page) (sym sum) ∙ sym (drop-drop (at - 32) 32 page)

    fits-second : 32 < at → FitsAt (halved pages place) key (record { page = place + 1; at = at - 32 })
    fits-second high = record {
      page = omega (arith, length-halved);
      at = rw second-half (let inside : at ≤ length page = fits.at in omega (arith, rest-length, full));
      before = rw (take-next, second-half) (subst (AreBelow key) front below);
      behind = rw (second-half, drop-second) (subst (λ rows. AreAbove key (rows ++ rows_in behind)) (dropped-more (omega arith)) above);
    }
      where
        first : rows_in (take place pages ++ take 32 page ∷ []) ≡ rows_in (take place pages) ++ take 32 page
        first = rows-append (take place pages) (take 32 page ∷ []) ∙ ap (λ rows. rows_in (take place pages) ++ rows) (append-nil (take 32 page))

        front : rows_in (take place pages) ++ take at page ≡ rows_in (take place pages ++ take 32 page ∷ []) ++ take (at - 32) (drop 32 page)
        front = ap (λ rows. rows_in (take place pages) ++ rows) (took-more (omega arith)) ∙ sym (append_assoc (rows_in (take place pages)) (take 32 page) (take (at - 32) (drop 32 page)))
            ∙ ap (λ rows. rows ++ take (at - 32) (drop 32 page)) (sym first)

    pub fits-half : FitsAt (halved pages place) key (in_half (record { page = place; at = at }))
    fits-half = by (nat_le at 32) refl
      where
        by : (b : Bool) → nat_le at 32 ≡ b → FitsAt (halved pages place) key (if b then record { page = place; at = at } else record { page = place + 1; at = at - 32 })
        by true low = fits-first (leb-true at 32 low)
        by false high = fits-second (leb-false at 32 high)

    pub room-half : length (page_at (halved pages place) (in_half (record { page = place; at = at })).page) < 64
    room-half = by (nat_le at 32)
      where
        by : (b : Bool) → (let spot : Spot = if b then record { page = place; at = at } else record { page = place + 1; at = at - 32 } in length (page_at (halved pages place) spot.page) < 64)
        by true = rw first-half (omega (arith, half-length))
        by false = rw second-half (omega (arith, rest-length))

pub halved-set : (pages : List Rows) (place : ℕ) (front behind : Rows) → place < length pages → front ≡ take 32 (page_at pages place) → behind ≡ drop 32 (page_at pages place)
    → insert (slice_set pages place front) (place + 1) behind ≡ halved pages place
halved-set pages place front behind within is rest =
    rw (sym is, sym rest) (ap (λ xs. xs ++ behind ∷ drop (place + 1) (slice_set pages place front)) taken ∙ append_assoc (take place pages) (front ∷ []) (behind ∷ drop (place + 1) (slice_set pages place front))
    ∙ ap (λ xs. take place pages ++ front ∷ behind ∷ xs) (drop-set-lt (place + 1) pages place front (omega arith)))
  where
    taken : take (place + 1) (slice_set pages place front) ≡ take place pages ++ front ∷ []
    taken = let next : place + 1 ≡ suc place = omega arith in rw next (take-suc-set pages place front within)

-- a page cut in two, and the part behind put behind it
pub split-told : (pages reserved new : List Rows) (place : ℕ) (front behind stood : Rows) → ArePages pages → place < length pages → length (page_at pages place) ≡ 64 → reserved ≡ pages → stood ≡ slice_index_or reserved place stood
    → front ≡ take 32 stood → behind ≡ drop 32 stood → new ≡ insert (slice_set reserved place front) (place + 1) behind → ArePages new
split-told pages reserved new place front behind stood are within full same found is rest told =
    let at : stood ≡ page_at pages place = at-found pages place stood within (rw same at found) in
    rw (told, same, halved-set pages place front behind within (is ∙ ap (take 32) at) (rest ∙ ap (drop 32) at)) (are-halved pages place within full are)
