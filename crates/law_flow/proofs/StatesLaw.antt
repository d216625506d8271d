-- Two states under each other are one.
use Rattle.std.specs.Prelude.{◌≡◌, Bool, true, false, Option, Some, None}
use Rattle.std.proofs.Common.{refl, sym, ap}
use Rattle.std.proofs.lemmas.Bool.{eqb-true}
use Rattle.std.proofs.lemmas.List.{ext_get_or}
use Rattle.dv_defs.specs.declared.names.Ty.{Ty}
use Rattle.dv_defs.specs.Images.{Image}
use Rattle.dv_typing.specs.declared.typing.RegType.{RegType}
use Rattle.dv_typing.specs.declared.typing.RegType.TheVariants as ty
use Rattle.dv_typing.specs.declared.typing.PendingType.{PendingType}
use Rattle.dv_typing.specs.declared.typing.PendingType.TheVariants as pend
use Rattle.dv_typing.specs.declared.typing.RegState.{RegState}
use Rattle.dv_typing.specs.RegTypes.{type_at, under, UnderPending, UnderCaught, IsBelow}
use Rattle.law_types.specs.Hierarchy.{IsOrder}
use Rattle.law_types.proofs.Laws.{types_are_ordered}
use Rattle.law_flow.specs.Laws.{StatesAreAntisymmetric}

module _ (image : Image) (ord : IsOrder image) where
  one_type : (s t : RegType) → under image s t ≡ true → under image t s ≡ true → s ≡ t
  one_type (ty.Class c) (ty.Class d) x y = ap ty.Class (ord.antisymmetric c d x y)
  one_type (ty.Uninit a) (ty.Uninit b) x y = ap ty.Uninit (eqb-true a b x)
  one_type ty.Conflict ty.Conflict x y = refl
  one_type ty.Zero ty.Zero x y = refl
  one_type ty.Int ty.Int x y = refl
  one_type ty.LongLo ty.LongLo x y = refl
  one_type ty.LongHi ty.LongHi x y = refl
  one_type ty.UninitThis ty.UninitThis x y = refl
  one_type s t x y = absurd (cc)

  one_result : (r p : PendingType) → UnderPending r p → UnderPending p r → r ≡ p
  one_result pend.None pend.None x y = refl
  one_result r (pend.One t) x y = x
  one_result r pend.Long x y = x
  one_result (pend.One t) pend.None x y = sym y
  one_result pend.Long pend.None x y = sym y

  one_caught : (c d : Option Ty) → UnderCaught image c d → UnderCaught image d c → c ≡ d
  one_caught None None x y = refl
  one_caught (Some c) (Some d) x y = ap Some (ord.antisymmetric c d x y)
  one_caught None (Some d) x y = absurd x
  one_caught (Some c) None x y = absurd y

  one_pending : (a b : Bool) → (a ≡ true → b ≡ true) → (b ≡ true → a ≡ true) → a ≡ b
  one_pending true b x y = sym (x refl)
  one_pending false true x y = y refl
  one_pending false false x y = refl

  one_state : (s t : RegState) → IsBelow image s t → IsBelow image t s → s ≡ t
  one_state s t x y =
      let regs : s.regs ≡ t.regs =
      ext_get_or ty.Conflict s.regs t.regs x.count (λ k within. one_type (type_at s.regs k) (type_at t.regs k) (x.each k) (y.each k)) in
      let result : s.result ≡ t.result = one_result s.result t.result x.result y.result in
      let caught : s.caught ≡ t.caught = one_caught s.caught t.caught x.caught y.caught in
      let pending : s.this_pending ≡ t.this_pending = one_pending s.this_pending t.this_pending x.this_pending y.this_pending in
      λ i. record { regs = regs i; result = result i; caught = caught i; this_pending = pending i }

pub states_are_antisymmetric : StatesAreAntisymmetric
states_are_antisymmetric image h = one_state image (types_are_ordered image h)
