use Rattle.std.proofs.Common.{◌≡◌, ap, ap₂, ◌∙◌, true}
use Rattle.std.proofs.lemmas.Result.{IfOk-weaker}
use Rattle.clap.specs.Simple.{app_of_fields}
use Rattle.clap.specs.Words.{App, Shape, app_of, with_subcommand}
use Rattle.mt_choice.specs.Command.{bare}
use Rattle.mt_choice.proofs.parser.command.Goals as goal

abbrev top_of : App → Shape
top_of a = a.top

abbrev with_required : App → App
with_required a = record a { top = record a.top { subcommand_required = true } }

pub returns : goal.returns
returns c =
    let bare_is : app_of c.subcommand_required.result ≡ bare = ap app_of_fields c.subcommand_required.ensures ∙ ap with_required (ap app_of_fields c.about.ensures ∙ c.new.ensures.app) in
    let run_is = c.in_ok-subcommand.ensures.shape c.in_ok-run_command.ensures.local ∙ ap₂ with_subcommand bare_is (ap top_of c.in_ok-run_command.ensures.shape) in
    let rules_is = c.in_ok-subcommand-2.ensures.shape c.rules_command.ensures.local ∙ ap₂ with_subcommand run_is (ap top_of c.rules_command.ensures.shape) in
    let topology_is = c.in_ok-subcommand-3.ensures.shape c.topology_command.ensures.local ∙ ap₂ with_subcommand rules_is (ap top_of c.topology_command.ensures.shape) in
    IfOk-weaker c.subcommand-4.result _ _ (λ r h. h.shape c.in_ok-race_command.ensures.local ∙ ap₂ with_subcommand topology_is (ap top_of c.in_ok-race_command.ensures.shape)) c.subcommand-4.ensures
