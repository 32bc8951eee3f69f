-- Each document is made by a fold over places, and each look-up among keyspaces is one; their order doesn't matter.
use Rattle.mt_laws.proofs.SameLemmas.{distinct_texts, dump-same, resolution-same, rules_text-same}
use Rattle.mt_laws.proofs.documents.same_topologies_have_the_same_look_ups_and_documents.Goals as goal

pub returns : goal.returns
returns c = record { look_up = resolution-same; rules_document = rules_text-same; dump = dump-same; distinct_texts = distinct_texts }
