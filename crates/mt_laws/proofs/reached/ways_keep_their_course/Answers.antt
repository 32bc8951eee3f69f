-- The journal alone changes the switched types before a way's end.
use Rattle.mt_laws.proofs.CourseLemmas.{hands_over, on_course}
use Rattle.mt_laws.proofs.reached.ways_keep_their_course.Goals as goal

pub returns : goal.returns
returns c = record { course = on_course; writes = hands_over }
