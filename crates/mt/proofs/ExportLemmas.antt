-- What an open handle says of its session.
use Rattle.std.proofs.Common.{◌≡◌, ℕ, List, true, refl, sym, ap, ◌∙◌, subst, ℤ, to_z, of_z, w32}
use Rattle.std.proofs.Math.Logic.{∥∥₁_elim}
use Rattle.std.proofs.Props.{props}
use Rattle.mt_model.specs.declared.entries.Scope.{Scope}
use Rattle.mt.specs.declared.handle.Handle.{Handle}
use Rattle.mt.specs.declared.session.Session.{Session}
use Rattle.mt.specs.declared.status.Status.{Status}
use Rattle.mt.specs.declared.status.Status.TheVariants as status
use Rattle.mt.specs.Exports.{IsOpen, WroteAScript, number_of}
use Rattle.mt.specs.Sessions.{HasSaid}

-- the number of a status comes back from the machine's word
pub code_of : (s : Status) (n : ℤ) → n ≡ number_of s → to_z w32 (of_z w32 n) ≡ number_of s
code_of s n is = ap (λ (k : ℤ). to_z w32 (of_z w32 k)) is ∙ comes_back s
  where
    comes_back : (s : Status) → to_z w32 (of_z w32 (number_of s)) ≡ number_of s
    comes_back status.Done = refl
    comes_back status.Memory = refl
    comes_back status.Room = refl
    comes_back status.Closed = refl
    comes_back status.Open = refl
    comes_back status.Names = refl
    comes_back status.TooLong = refl

module _ (session : Session) (scopes : List Scope) (lines : List (List ℕ)) (out : List ℕ) where
  -- a handle that has a session is open, with what that has said
  pub opened_as : (handle : Handle) → handle.opened ≡ true → HasSaid handle.held.scopes handle.held.lines handle.held.out session → HasSaid scopes lines out session → IsOpen scopes lines out handle
  opened_as handle opened (a, b, c) (a', b', c') = (opened, sym a ∙ a', sym b ∙ b', sym c ∙ c')

  -- what a session has said is what a script of its lines writes
  pub wrote : HasSaid scopes lines out session → ∥ WroteAScript scopes lines out ∥₁
  wrote (a, b, c) = ∥∥₁_elim session.so_far (hlevel props) (λ so_far.
      ∣ subst (λ o. WroteAScript scopes lines o) c (subst (λ l. WroteAScript scopes l session.said.out) b
      (subst (λ s. WroteAScript s session.said.lines session.said.out) a (so_far.events, so_far.answers, so_far.ran, so_far.keeps))) ∣₁)
