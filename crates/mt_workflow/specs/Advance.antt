-- What an advance of a stream of a workflow does (this profile's own).
use Rattle.std.specs.Prelude.{◌≡◌, ℕ, Option, None, Some, Result}
use Rattle.mt_primary.specs.Primary.{PrimaryState}
use Rattle.mt_stream.specs.declared.fault.StreamFault.{StreamFault}
use Rattle.mt_stream.specs.declared.stream.Advanced.{Advanced}
use Rattle.mt_stream.specs.Advance.{Advances}
use Rattle.mt_stream.specs.Streams.{StreamValue}

-- the stream that stands in a slot advances and stays there; where none stands, nothing is answered, and all is as it was
abbrev pub AdvancesSlot : Option StreamValue → (source sink : PrimaryState) → (at at_most : ℕ) → Option (Result Advanced StreamFault) → Option StreamValue → PrimaryState → Type 0
AdvancesSlot None source sink at at_most answer new new_sink = (answer ≡ None) × (new ≡ None) × (new_sink ≡ sink)
AdvancesSlot (Some stream) source sink at at_most (Some result) (Some advanced) new_sink = Advances stream source sink at at_most result advanced new_sink
AdvancesSlot (Some stream) source sink at at_most answer new new_sink = ⊥
