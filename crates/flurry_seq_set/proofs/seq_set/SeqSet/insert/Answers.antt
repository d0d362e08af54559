use Rattle.std.proofs.Common.{◌≡◌, sym, ◌∙◌, rules}
use Rattle.std.proofs.lemmas.List.{length-map}
use Rattle.std.specs.Arc.{arc_value}
use Rattle.flurry_seq_set.proofs.SetLaws.{put_key}
use Rattle.flurry_seq_set.proofs.seq_set.SeqSet.insert.Goals as goal

pub invariant_of-self-2 : goal.invariant_of-self-2
invariant_of-self-2 g c =
    (put_key g.met.T.Ord.total c.self.inside.map c.try_insert.new.self c.args.element tt (λ new. arc_value new ≡ tt) (λ current e. (arc_value e.current ≡ current) × (e.not_inserted ≡ tt)) c.in_ok-try_insert.field-0 c.in_ok-try_insert.ensures.reply c.self.invariant).2

pub returns-clause-new : goal.returns-clause-new
returns-clause-new g c =
    c.is_ok.ensures.value
    ∙ rw (← c.self.view_is)
    (put_key g.met.T.Ord.total c.self.inside.map c.try_insert.new.self c.args.element tt (λ new. arc_value new ≡ tt) (λ current e. (arc_value e.current ≡ current) × (e.not_inserted ≡ tt)) c.in_ok-try_insert.field-0 c.in_ok-try_insert.ensures.reply c.self.invariant).0

pub returns-clause-elements : goal.returns-clause-elements
returns-clause-elements g c =
    rw (← c.self.view_is)
    (put_key g.met.T.Ord.total c.self.inside.map c.try_insert.new.self c.args.element tt (λ new. arc_value new ≡ tt) (λ current e. (arc_value e.current ≡ current) × (e.not_inserted ≡ tt)) c.in_ok-try_insert.field-0 c.in_ok-try_insert.ensures.reply c.self.invariant).1

pub returns-clause-grown : goal.returns-clause-grown
returns-clause-grown g c = λ new. rw (← c.self.view_is, length-map) (c.in_ok-try_insert.ensures.grown (sym c.is_ok.ensures.value ∙ new))

pub returns-clause-bins : goal.returns-clause-bins
returns-clause-bins g c = search rules
