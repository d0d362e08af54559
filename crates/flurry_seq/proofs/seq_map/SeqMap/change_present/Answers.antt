use Rattle.std.proofs.Common.{◌≡◌, Option, Some, None, IsSome, ap, refl}
use Rattle.std.proofs.lemmas.Bool.{false≢true}
use Rattle.std.specs.Option.{option_map}
use Rattle.std.specs.Arc.{arc_value}
use Rattle.std.specs.declared.sync.Arc.{Arc}
use Rattle.flurry_base.specs.Changes.{IsChange}
use Rattle.flurry_base.specs.FiniteMap.{pair_at}
use Rattle.flurry_base.specs.declared.change.Change.TheVariants.{Changed}
use Rattle.flurry_seq.proofs.seq_map.SeqMap.change_present.Goals as goal

IsChange-present : {K V A : Type 0} (o : Option (K × V)) (w : V) (new : Arc V A) → IsSome o → arc_value new ≡ w → IsChange (option_map (λ p. p.1) o) (Some w) (Changed new)
IsChange-present (Some p) w new present value = (new, refl, value)
IsChange-present None w new present value = absurd (false≢true present)

pub returns-in_ok-renew-in-Some-clause-reply : goal.returns-in_ok-renew-in-Some-clause-reply
returns-in_ok-renew-in-Some-clause-reply g c =
    let new = c.in_ok-renew-in-Some in
    let before = pair_at g.K.Ord.cmp c.args.self.now.pairs (g.Q.Query.stands_for c.args.key) in
    rw c.in-Some.is (
      IsChange-present before c.in-Some.value new.field-0 c.requires.present new.ensures.value,
      ap (λ m. m.pairs) new.ensures.after,
    )

pub returns-in-Some-take-clause-reply : goal.returns-in-Some-take-clause-reply
returns-in-Some-take-clause-reply g c =
    rw (c.in-None.is, ← c.in-Some-take.ensures.pair) ((c.in-Some-take.old, refl, refl), ap (λ m. m.pairs) c.take.ensures.after)
