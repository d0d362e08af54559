-- The entries that an iterator over a table has left.
use Rattle.std.specs.Prelude.{ℕ, List, [], ◌∷◌, ◌++◌, filter, Option}
use Rattle.std.specs.declared.cmp.Ordering.{Ordering}
use Rattle.std.specs.Borrow.{Bor}
use Rattle.std.specs.Option.{option_map}
use Rattle.std.specs.Arc.{arc_value}
use Rattle.std.specs.declared.sync.Arc.{Arc}
use Rattle.flurry_bins.specs.declared.bin.adaptive.Bin.{Bin}
use Rattle.flurry_bins.specs.declared.bin.entry.Entry.{Entry}
use Rattle.flurry_bins.specs.Bin.{entries_of_bin}
use Rattle.flurry_bins.specs.Entries.{is_past_bound}
use Rattle.flurry_bins.specs.PlainEntries.{pairs_of_entries}
use Rattle.flurry_seq.specs.Table.{all_entries}
use Rattle.flurry_seq.specs.MapsOfBins.{maps_of_bins}

-- what an item points to
abbrev pub pair_of_item : {K V A : Type 0} → Bor (Arc K A) × Bor (Arc V A) → K × V
pair_of_item item = (arc_value item.0.now, arc_value item.1.now)

abbrev pub value_of_item : {V A : Type 0} → Bor (Arc V A) → V
value_of_item item = arc_value item.now

-- the hash and the key of an entry
abbrev pub iter_place : {K V A : Type 0} → Option (Bor (Entry K V A)) → Option (ℕ × K)
iter_place e = option_map (λ e. (e.now.hash, arc_value e.now.key)) e

-- of the first bin the entries past the last one, and all entries of the other bins
abbrev pub entries_left : {K V A : Type 0} {o : _} {e : _} {p : _} → (K → K → Ordering) → List (Bin K V A o e p) → Option (Bor (Entry K V A)) → List ((ℕ × K) × V)
entries_left cmp [] last = []
entries_left cmp (b ∷ bins) last = pairs_of_entries (filter (is_past_bound cmp (iter_place last)) (entries_of_bin b)) ++ all_entries (maps_of_bins bins)
