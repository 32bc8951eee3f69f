use Rattle.mt_laws.proofs.StreamLemmas.{rest_of_source, rest_of_target}
use Rattle.mt_laws.proofs.streams.at_rest_the_stream_that_reads_the_owner_runs.Goals as goal

pub returns : goal.returns
returns c = record {
  source = λ p reached name w live rests is lane. rest_of_source p reached name w live lane rests is;
  target = λ p reached name w live rests is lane. rest_of_target p reached name w live lane rests is;
}
