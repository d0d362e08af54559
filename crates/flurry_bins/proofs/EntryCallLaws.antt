-- Laws of what is kept of a bin's entries.
use Rattle.std.proofs.Common.{◌≡◌, Bool, ap, ◌∙◌, subst}
use Rattle.std.specs.Borrow.{Bor}
use Rattle.std.specs.Arc.{arc_value}
use Rattle.flurry_bins.specs.declared.bin.entry.Entry.{Entry}
use Rattle.flurry_bins.specs.EntryCall.{CalledAtEntry}

-- a call at references to the key and the value of an entry
pub CalledAtEntry-from : {F K V A : Type 0} (step : F → Bor K → Bor V → Bool → F → Type 0) (f next : F) (shown e : Entry K V A) (key : Bor K) (value : Bor V) (answer told : Bool)
    → shown ≡ e → key.now ≡ arc_value shown.key → value.now ≡ arc_value shown.value → answer ≡ told → step f key value answer next → CalledAtEntry step f e told next
CalledAtEntry-from {K = K} {V = V} {A = A} step f next shown e key value answer told same is_key is_value said called = record {
  key = key;
  value = value;
  shows_key = is_key ∙ ap (λ (x : Entry K V A). arc_value x.key) same;
  shows_value = is_value ∙ ap (λ (x : Entry K V A). arc_value x.value) same;
  called = subst (λ b. step f key value b next) said called;
}
