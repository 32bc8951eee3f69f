-- How a refusal of a text is printed.
use Rattle.std.specs.Prelude.{ℕ, List, codes}
use Rattle.mt_names.specs.declared.fault.NameFault.{NameFault}
use Rattle.mt_names.specs.declared.fault.NameFault.TheVariants.{Empty, TooLong, BadByte, Repeated, ReservedSuffix, BadType, TooMany, NoKeyspace, BadRange, NotCovering}

-- its number and its name, without the place that it carries
abbrev pub fault_text : NameFault → List ℕ
fault_text Empty = codes "N1 Empty"
fault_text TooLong = codes "N2 TooLong"
fault_text (BadByte place) = codes "N3 BadByte"
fault_text Repeated = codes "N4 Repeated"
fault_text ReservedSuffix = codes "N5 ReservedSuffix"
fault_text BadType = codes "N6 BadType"
fault_text TooMany = codes "N7 TooMany"
fault_text NoKeyspace = codes "N8 NoKeyspace"
fault_text BadRange = codes "N9 BadRange"
fault_text NotCovering = codes "N10 NotCovering"
