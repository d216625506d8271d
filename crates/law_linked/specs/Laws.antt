-- What holds of each linked image, as statements.
use Rattle.std.specs.Prelude.{◌≡◌, ℕ, true, false, List, Some, slice_get, slice_index_or, codes}
use Rattle.std.specs.List.{position_or_len}
use Rattle.dv_defs.specs.declared.image.ClassInfo.{ClassInfo}
use Rattle.dv_defs.specs.declared.image.Select.TheVariants as select
use Rattle.dv_defs.specs.declared.names.Proto.{Proto}
use Rattle.dv_defs.specs.declared.names.Ty.{Ty}
use Rattle.dv_typing.specs.Accepting.{Accepts}
use Rattle.dv_defs.specs.Images.{Image}
use Rattle.dv_defs.specs.Linked.{IsImage, keyed_at}
use Rattle.dv_defs.specs.Common.{common_super}
use Rattle.dv_defs.specs.LookUp.{is_method_of}
use Rattle.dv_defs.specs.Names.{string_name, throwable_name}
use Rattle.dv_defs.specs.Order.{sub}
use Rattle.dv_defs.specs.Pools.{Field, Method, class_type, field_at, is_interface, is_static_field}
use Rattle.dv_defs.specs.Selecting.{selected}
use Rattle.dv_defs.specs.Types.{is_reference, of_class}
use Rattle.dv_defs.specs.declared.run.Limits.{Limits}
use Rattle.law_types.specs.Hierarchy.{IsOrder}
use Rattle.dv_machine.specs.Mains.{IsMain}
use Rattle.dv_machine.specs.Unwinding.{throwable_slot}
use Rattle.law_machine.specs.Bridge.{HasLinking}
use Rattle.law_machine.specs.Running.{NeverGoesWrong}

-- each image that linking gives is what the laws of the machine take
abbrev pub LinkedImagesHaveLinking : Type 0
LinkedImagesHaveLinking = (image : Image) → IsImage image → HasLinking image

-- its subtypes are ordered
abbrev pub LinkedTypesAreOrdered : Type 0
LinkedTypesAreOrdered = (image : Image) → IsImage image → IsOrder image

-- a type that is above both and under each other that is
pub record IsNearestCommon (image : Image) (a b c : Ty) : Type 0 where
  pub first : sub image a c ≡ true
  pub second : sub image b c ≡ true
  pub least : (e : Ty) → sub image a e ≡ true → sub image b e ≡ true → sub image c e ≡ true

-- two reference types have it
abbrev pub LinkedTypesHaveCommon : Type 0
LinkedTypesHaveCommon =
    (image : Image) → IsImage image → (a b : Ty) → is_reference a ≡ true → is_reference b ≡ true →
    IsNearestCommon image a b (common_super image a b)

-- the table of a class has, at the place of a name and a prototype, what a call selects; where it has no such place nothing could be run
abbrev pub LinkedTablesAgree : Type 0
LinkedTablesAgree =
    (image : Image) → IsImage image → (c : ℕ) (info : ClassInfo) → slice_get image.classes c ≡ Some info →
    (name : List ℕ) (p : Proto) →
    slice_index_or info.table (position_or_len (is_method_of name p) (keyed_at image c)) select.Abstract ≡ selected image c name p

-- the message of a Throwable: an instance field, whose cell is found by its name
pub record HasMessage (image : Image) : Type 0 where
  pub id : ℕ
  pub field : Field
  pub at : field_at image id ≡ Some field
  pub placed : is_static_field field ≡ false
  pub concrete : is_interface image field.info.class.0 ≡ false
  pub class : class_type image field.info.class.0 ≡ of_class throwable_name
  pub ty : field.def.ty ≡ of_class string_name
  pub slot : throwable_slot image (codes "message") ≡ field.info.slot

-- it is a String
abbrev pub LinkedMessagesAreStrings : Type 0
LinkedMessagesAreStrings = (image : Image) → IsImage image → HasMessage image

-- and where the verifier accepts it, no run is ever stuck
abbrev pub LinkedRunsNeverGoWrong : Type 0
LinkedRunsNeverGoWrong =
    (image : Image) → IsImage image → Accepts image → (main : Method) → IsMain image main → (limits : Limits) →
    NeverGoesWrong image main limits
