-- A `&` to a `Moment` holds what it knows, which can be had twice. Assumes `Logic`.
use base.Logic.{snd∗}
use base.Before.{before}
use types.Logic.{sem}
use denote.Builtin.{unit}
use denote.Param.Shared.{copy_shared}
use denote.Struct.Laws.{field_copy}
use denote.Struct.Lending.{of_Lends}
use Rattle.std.specs.contracts.marker.PhantomData as marker
use Rattle.meet_moments.specs.Kept.{moment_owns}
use Rattle.meet_moments.specs.contracts.Moment as C
use Rattle.meet_moments.proofs.Steps.{moment_twice, lends_twice}
use Rattle.meet_moments.proofs.Moment.TheLaw.Statement.{statement}

pub shares : statement
shares = of_Lends C.struct (C.the_codes (marker.the_row unit).coded) C.the_heap C.the_lent
    (λ d p. record { contraction = λ M 𝓤 𝓛 κ. moment_twice 𝓛 d.name d.at; mono = λ M 𝓤 𝓛 κ' κ. snd∗ 𝓤 (sem 𝓛 (before κ' κ)) (sem 𝓛 (moment_owns d.name d.at)) })
    (copy_shared (marker.the_field unit) (field_copy (marker.the_type unit) tt), tt)
    (λ M 𝓤 𝓛 d p. lends_twice 𝓛 (moment_owns d.name d.at) (moment_twice 𝓛 d.name d.at) C.the_row.lives)
