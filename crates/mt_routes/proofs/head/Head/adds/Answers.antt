use Rattle.std.proofs.Common.{sym, ◌∙◌, ap}
use Rattle.mt_routes.proofs.Adding.{adds_moves}
use Rattle.mt_routes.proofs.head.Head.adds.Goals as goal

pub compare_exchange-found-requires : goal.compare_exchange-found-requires
compare_exchange-found-requires g c =
    let h = c.args.self.now.word_is in
    let offer = c.plain-offer.ensures in
    let pen = c.no_pen-pen.ensures in (
      ap (λ w. w.tracked) h,
      c.requires.book ∙ sym (ap (λ w. w.book) h),
      pen.0 ∙ (c.requires.book ∙ sym (ap (λ w. w.book) h)),
      offer.0,
      rw (ap (λ w. w.key) h, pen.1, offer.1, offer.3) (adds_moves c.args.seen.now.log c.args.next.now c.args.count (sym c.requires.count.0) c.requires.rises),
    )
