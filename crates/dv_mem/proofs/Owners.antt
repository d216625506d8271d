-- Owners of fields.
use Rattle.std.proofs.Common.{◌≡◌, ◌≢◌, ◌+◌, ◌<◌, ℕ, zero, suc, length, Some, refl, arith}
use Rattle.std.specs.Prelude.{IsSome}
use Rattle.dv_defs.specs.declared.run.Named.TheVariants as named
use Rattle.dv_defs.specs.Pools.{Field}
use Rattle.dv_defs.specs.Types.{words_of}
use Rattle.dv_machine.specs.Mem.{on_object}
use Rattle.dv_machine.specs.State.{Did, Throws}
use Rattle.dv_words.specs.declared.state.Kind.TheVariants as kind
use Rattle.dv_words.specs.Heaps.{kind_of, words_of_object}
use Rattle.dv_words.specs.State.{WordHeap}
use Rattle.dv_words.specs.Mem.{WordLeft}
use Rattle.dv_mem.specs.Operands.{IsNullOrOwner, IsOwner}

-- what lacks the words of the field is null
pub lacking_is_null : (x : Field) (heap : WordHeap) (o : ℕ) (go : ℕ → Did WordLeft) → IsNullOrOwner x heap o → (0 < o → IsSome (kind_of heap o) → kind_of heap o ≢ Some kind.Str → length (words_of_object heap o) < x.info.slot + words_of x.def.ty) → on_object go o ≡ Throws named.NullPointer
lacking_is_null x heap zero go is lacks = refl
lacking_is_null x heap (suc o) go is lacks =
    let some : 0 < suc o = omega arith in
    let owner : IsOwner x heap (suc o) = is some in
    let few : length (words_of_object heap (suc o)) < x.info.slot + words_of x.def.ty = lacks some owner.exists owner.no_string in
    absurd (omega (arith, owner.within, few))
