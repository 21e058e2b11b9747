-- The codec's fault for a fault of a text, of a context's parts or of rows (this project).
use Rattle.sup_specs.specs.declared.texts.TextFault.{TextFault}
use Rattle.sup_specs.specs.declared.texts.TextFault.TheVariants as text
use Rattle.sup_causal.specs.declared.parts.PartsFault.{PartsFault}
use Rattle.sup_causal.specs.declared.parts.PartsFault.TheVariants as parts
use Rattle.sup_tables.specs.declared.fault.RowsFault.{RowsFault}
use Rattle.sup_tables.specs.declared.fault.RowsFault.TheVariants as rows
use Rattle.sup_wire.specs.declared.fault.WireFault.{WireFault}
use Rattle.sup_wire.specs.declared.fault.WireFault.TheVariants.{NotMessage, NotCanonical, OutOfMemory}

abbrev pub told_text : TextFault → WireFault
told_text text.Empty = NotMessage
told_text text.TooLong = NotMessage
told_text (text.BadByte place) = NotMessage
told_text text.OutOfMemory = OutOfMemory

abbrev pub told_parts : PartsFault → WireFault
told_parts parts.NotCanonical = NotCanonical
told_parts parts.OutOfMemory = OutOfMemory

abbrev pub told_rows : RowsFault → WireFault
told_rows rows.NotCanonical = NotCanonical
told_rows rows.NotCovered = NotCanonical
told_rows rows.OutOfMemory = OutOfMemory
