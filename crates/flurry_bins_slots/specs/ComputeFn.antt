-- What a function may answer on the pair of a key.
use Rattle.std.specs.Prelude.{◌≡◌, Option, Some, None}
use Rattle.std.specs.Borrow.{Bor}
use Rattle.std.specs.Fn.{Once}
use Rattle.flurry_base.specs.Verdicts.{verdict_of}
use Rattle.flurry_base.specs.declared.verdict.Verdict.{Verdict}
use Rattle.flurry_base.specs.declared.verdict.Verdict.TheVariants.{Keep}

-- a call of the function f at references to a key and a value may answer r
pub record AnswersAtPair {F K V : Type 0} (calls : Once F (Bor K × (Bor V × Unit {0})) (Option V)) (f : F) (k : K) (v : V) (r : Option V) : Type 0 where
  pub key : Bor K
  pub value : Bor V
  pub shows : (key.now ≡ k) × (value.now ≡ v)
  pub answered : calls.post f (key, (value, tt)) r

-- A call of the function f, which is called on a present pair alone, may make v of the pair of a key: what it answers there is the new
-- value, or none to remove the pair. An absent key stays absent.
abbrev pub AnswersIfPresent : {F K V : Type 0} → Once F (Bor K × (Bor V × Unit {0})) (Option V) → F → K → Option V → Verdict V → Type 0
AnswersIfPresent calls f k None v = v ≡ Keep
AnswersIfPresent calls f k (Some x) v = (o : Option _) × (v ≡ verdict_of o) × AnswersAtPair calls f k x o
