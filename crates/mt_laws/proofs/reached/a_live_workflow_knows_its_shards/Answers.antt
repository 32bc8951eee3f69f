-- By the cuts that each live workflow has, and the numbers of its lanes.
use Rattle.std.proofs.Common.{◌≡◌, ℕ, List, [], ◌∷◌, map, Some, refl, ap, ◌∙◌}
use Rattle.std.specs.List.{range_with_len}
use Rattle.mt_names.specs.Names.{same_text}
use Rattle.mt_names.specs.Shards.{shard_count}
use Rattle.mt_plain.specs.Plain.{Lane, Live, Plain, live_at}
use Rattle.mt_laws.proofs.CutLemmas.{reached_cut, source_shard, target_shard}
use Rattle.mt_laws.proofs.LaneLemmas.{lane_of_key, reached_numbered}
use Rattle.mt_laws.proofs.LiveLemmas.{IsIn, find_some}
use Rattle.mt_laws.proofs.reached.a_live_workflow_knows_its_shards.Goals as goal

lives : (p : Plain) (name : List ℕ) (w : Live) → live_at p name ≡ Some w → IsIn w p.lives
lives p name w live = (find_some (λ w. same_text w.name name) p.lives w live).0

one : (lanes : List Lane) → map (λ lane. lane.shard) lanes ≡ 0 ∷ [] → (lane : Lane) × (lanes ≡ lane ∷ []) × (lane.shard ≡ 0)
one [] e = absurd cc
one (lane ∷ []) e = (lane, refl, cc)
one (lane ∷ other ∷ lanes) e = absurd cc

pub returns : goal.returns
returns c = record {
  cuts = λ p reached name w live. (reached_cut p reached w (lives p name w live)).target;
  source_cuts = λ p reached name w live. (reached_cut p reached w (lives p name w live)).source;
  source = λ p reached name w live key. source_shard p w (reached_cut p reached w (lives p name w live)) key;
  target = λ p reached name w live key. target_shard p w (reached_cut p reached w (lives p name w live)) key;
  lanes = λ p reached name w live key. lane_of_key w (reached_numbered p reached w (lives p name w live)) key;
  numbers = λ p reached name w live. reached_numbered p reached w (lives p name w live);
  one_lane = λ p reached name w live e. one w.lanes (reached_numbered p reached w (lives p name w live) ∙ ap (λ cuts. range_with_len 0 (shard_count cuts)) e);
}
