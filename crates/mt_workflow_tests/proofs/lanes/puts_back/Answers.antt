-- Each table is named once.
use Rattle.std.proofs.Common.{AllPairs, ◌≢◌, subst, sym}
use Rattle.mt_workflow_tests.proofs.lanes.puts_back.Goals as goal

pub new_running-stream-requires : goal.new_running-stream-requires
new_running-stream-requires c = subst (AllPairs ◌≢◌) (sym c.table_list.ensures.tables) c.table_list.ensures.distinct
