-- The numbers and the texts of the faults that end a book.
use Rattle.std.specs.Prelude.{ℕ, List, Option, Some, codes}
use Rattle.flurry_seq_recorded.specs.declared.closed.CloseFault.{CloseFault}
use Rattle.flurry_seq_recorded.specs.declared.closed.CloseFault.TheVariants.{SharesDiffer, ReceiptsDiffer, PlacesDiffer, NoMemory}

abbrev pub fault_number : CloseFault → ℕ
fault_number SharesDiffer = 1
fault_number ReceiptsDiffer = 2
fault_number PlacesDiffer = 3
fault_number NoMemory = 4

abbrev pub fault_text : CloseFault → Option (List ℕ)
fault_text SharesDiffer = Some (codes "the shares are not those of the map, or have not as many receipts as it has calls")
fault_text ReceiptsDiffer = Some (codes "a receipt is not the call and the reply at its place in the history")
fault_text PlacesDiffer = Some (codes "the places of a share do not ascend, or two receipts name one place")
fault_text NoMemory = Some (codes "out of memory")
