-- A `&` to a `Shared` is made of a borrow of it.
use denote.Param.Laws.{Laws}
use denote.Param.Shared.{copy_shared}
use denote.RattleType.{RattleType}
use denote.RawPtr.{◌+ₚ◌}
use denote.Struct.Field.{RawPtr-field}
use denote.Struct.Laws.{RawPtr-copy}
use denote.Struct.Lending.{of_Lends, lent_at, lent_at_shr_laws}
use Rattle.std.specs.declared.alloc.Allocator.{Ghosts}
use Rattle.vt_shared.specs.Inside.Layout.{count_is, value_at, contents}
use Rattle.vt_shared.specs.Inside.Owner.{page}
use Rattle.vt_shared.specs.contracts.pointer.Shared as S
use Rattle.vt_shared.proofs.Lending.{lent_laws, Lends-owner}
use Rattle.vt_shared.proofs.pointer.Shared.TheLaw.Statement.{statement}

pub shares : (R Z : RattleType) (g : Ghosts Z.Denot) (L : Laws R) (K : Laws Z) → statement R Z g L K
shares R Z g L K =
    let place = λ (d : (S.the_row R Z g).Denot). d.block +ₚ value_at R Z in
    let laws = λ (d : (S.the_row R Z g).Denot). lent_at_shr_laws R L.shr_laws (place d) d.value in
    of_Lends (S.struct R Z g) (S.the_codes R.Denot Z.Denot R.coded Z.coded) (S.the_heap R Z g) (S.the_lent R Z g)
    (λ d _. lent_laws (page d.block) (count_is d.block) (contents R Z g.dealloc_token d.block d.value) (lent_at R (place d) d.value) (laws d)) (copy_shared RawPtr-field RawPtr-copy, tt)
    (λ M 𝓤 𝓛 d _. Lends-owner (page d.block) (count_is d.block) (contents R Z g.dealloc_token d.block d.value) (lent_at R (place d) d.value) (laws d) 𝓛 (S.the_row R Z g).lives)
