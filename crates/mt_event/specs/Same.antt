-- The tests that `==` computes of events and answers.
use Rattle.std.specs.Prelude.{Bool}
use Rattle.mt_event.specs.declared.event.Event.{Event}
use Rattle.mt_event.specs.declared.refusal.Refusal.{Refusal}
use Rattle.mt_event.specs.declared.reply.Reply.{Reply}
use Rattle.mt_event.specs.contracts.event.EventPartialEq.TheImpl as of_event
use Rattle.mt_event.specs.contracts.refusal.RefusalPartialEq.TheImpl as of_refusal
use Rattle.mt_event.specs.contracts.reply.ReplyPartialEq.TheImpl as of_reply

-- of two events
abbrev pub same_event : Event → Event → Bool
same_event = of_event.ghosts.eq

-- of two answers to events that are taken
abbrev pub same_reply : Reply → Reply → Bool
same_reply = of_reply.ghosts.eq

-- of two refusals
abbrev pub same_refusal : Refusal → Refusal → Bool
same_refusal = of_refusal.ghosts.eq
