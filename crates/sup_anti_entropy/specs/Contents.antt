-- What a contract sees of the code's buffer and shipment.
use Rattle.std.specs.Option.{unwrap_or}
use Rattle.std.specs.BTreeMap.{get}
use Rattle.sup_specs.specs.Values.{Bytes, text_cmp}
use Rattle.sup_tables.specs.States.{State}
use Rattle.sup_anti_entropy.specs.Buffers.{Buffer, Shipment}
use Rattle.sup_anti_entropy.specs.declared.buffer.Buffer.{Buffer as Kept}
use Rattle.sup_anti_entropy.specs.declared.shipment.Shipment.{Shipment as Sent}

abbrev pub buffer_of : Kept → Buffer Bytes State
buffer_of b = record { room = b.deltas.capacity; count = b.count; held = b.deltas.items; acked = λ peer. unwrap_or (get text_cmp b.acknowledged peer) 0 }

abbrev pub shipment_of : Sent → Shipment State
shipment_of s = record { content = s.delta; number = s.n; whole = s.whole }
