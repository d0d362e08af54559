use Rattle.beside_field.proofs.beside.beside_is_exclusive.Goals as goal

pub returns : goal.returns
returns g c = record { places = λ r e live ok r' h. h; lends_own = λ s l s' h. h; lacks_only = λ s p h. h }
