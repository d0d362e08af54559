-- Where a function may be called, and what it may answer there.
use Rattle.std.specs.Prelude.{◌≡◌, Option, None, Some}
use Rattle.std.specs.Option.{option_copied}
use Rattle.std.specs.Borrow.{Bor}
use Rattle.flurry_base.specs.Verdicts.{verdict_of}
use Rattle.flurry_base.specs.declared.verdict.Verdict.{Verdict}
use Rattle.flurry_base.specs.declared.verdict.Verdict.TheVariants.{Keep}

module _ {F K V : Type 0} where
  -- it may be called on the pair, at whatever references to its key and its value
  abbrev pub IsCallableAt : (F → Bor K → Bor V → Type 0) → F → K × V → Type 0
  IsCallableAt pre f p = (k : Bor K) (v : Bor V) → k.now ≡ p.0 → v.now ≡ p.1 → pre f k v

  -- called on the pair, it may return the answer
  abbrev pub AnswersAt : {R : Type 0} → (F → Bor K → Bor V → R → Type 0) → F → K × V → R → Type 0
  AnswersAt post f p answer = (k : Bor K) × (v : Bor V) × (k.now ≡ p.0) × (v.now ≡ p.1) × post f k v answer

  -- it may be called on the key and on the value, or on none, at whatever references to them
  abbrev pub IsCallableOn : (F → Bor K → Option (Bor V) → Type 0) → F → K → Option V → Type 0
  IsCallableOn pre f x y = (k : Bor K) (o : Option (Bor V)) → k.now ≡ x → option_copied o ≡ y → pre f k o

  -- called on the key and on the value, or on none, it may return the answer
  abbrev pub AnswersOn : {R : Type 0} → (F → Bor K → Option (Bor V) → R → Type 0) → F → K → Option V → R → Type 0
  AnswersOn post f x y answer = (k : Bor K) × (o : Option (Bor V)) × (k.now ≡ x) × (option_copied o ≡ y) × post f k o answer

  -- A function that is called on a present pair alone may make that of the pair of a key: what it answers there is the new value, or none
  -- to remove the pair. An absent key stays absent.
  abbrev pub if_present : (F → K → V → Option V → Type 0) → F → K → Option V → Verdict V → Type 0
  if_present gives f k None v = v ≡ Keep
  if_present gives f k (Some x) v = (o : Option V) × (v ≡ verdict_of o) × gives f k x o
