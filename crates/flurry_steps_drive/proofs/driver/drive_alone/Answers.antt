use Rattle.flurry_steps_drive.proofs.HoldsLaws.{own_tells, fresh}
use Rattle.flurry_steps_stages.specs.CallView.{plain_of_owned}
use Rattle.flurry_steps_drive.proofs.driver.drive_alone.Goals as goal

pub returns : goal.returns
returns g c = λ n m few holds.
    let hash_of = g.S.KeyHasher.hash_of c.args.hasher.now in
    c.drive-reply.ensures.exact (λ s. s) (λ r. r) own_tells hash_of (g.met.S.KeyHasher.alike c.args.hasher.now) (plain_of_owned c.args.call)
    (fresh g.K.Ord.cmp hash_of g.F.ComputeFn.changes c.args.call _ _ _ c.from_owned-party.ensures c.hash_for-hash.ensures) n m few holds
