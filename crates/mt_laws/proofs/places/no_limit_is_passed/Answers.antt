-- Each event that grows something tests its limit, and Complete leaves the target as many tables as it had.
use Rattle.mt_laws.proofs.LimitLemmas.{journal_fits, keyspaces_fit, tables_fit, ways_fit, workflows_fit}
use Rattle.mt_laws.proofs.RuleLimitLemmas.{rules_fit}
use Rattle.mt_laws.proofs.places.no_limit_is_passed.Goals as goal

pub returns : goal.returns
returns c = λ p reached. record {
  keyspaces = keyspaces_fit p reached;
  tables = tables_fit p reached;
  rules = rules_fit p reached;
  workflows = workflows_fit p reached;
  ways = ways_fit p reached;
  journal = journal_fits p reached;
}
