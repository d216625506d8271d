-- Classes that can be printed so that they are read again.
use Rattle.std.specs.Prelude.{◌≡◌, ◌⊎◌, ℕ, Bool, true, false, List, All, Option, Some, None}
use Rattle.dv_defs.specs.declared.class.ClassDef.{ClassDef}
use Rattle.dv_defs.specs.declared.class.MethodDef.{MethodDef}
use Rattle.dv_defs.specs.Body.{BodyValue}
use Rattle.dv_draft.specs.Draft.{DraftValue}
use Rattle.dv_asm.specs.Layout.{layout}
use Rattle.dv_asm.specs.Refusals.{refusal}
use Rattle.dv_classread.specs.ClassLines.{is_object_name}
use Rattle.law_listing.specs.ClassPieces.{HasKnownFlags, IsClassText, IsListedField, IsListedSignature}
use Rattle.law_listing.specs.DraftListable.{IsListedDraft}
use Rattle.law_listing.specs.RawListable.{IsListedRaw}

-- a body that was laid out from a listed draft
pub record IsListedLayout (b : BodyValue) : Type 0 where
  pub draft : DraftValue
  pub listed : IsListedDraft draft
  pub accepted : refusal draft ≡ None
  pub same : layout draft ≡ b

abbrev pub IsListedBody : BodyValue → Type 0
IsListedBody b = IsListedRaw b ⊎ IsListedLayout b

abbrev pub IsListedBodyIfAny : Option BodyValue → Type 0
IsListedBodyIfAny None = Unit {0}
IsListedBodyIfAny (Some b) = IsListedBody b

pub record IsListedMethod (m : MethodDef) : Type 0 where
  pub signature : IsListedSignature m
  pub body : IsListedBodyIfAny m.body

-- Object alone has no superclass
abbrev pub IsParentText : Bool → Option (List ℕ) → Type 0
IsParentText is_object None = is_object ≡ true
IsParentText is_object (Some name) = (is_object ≡ false) × IsClassText name

pub record IsListedClass (c : ClassDef) : Type 0 where
  pub name : IsClassText c.name
  pub flags : HasKnownFlags c.flags
  pub parent : IsParentText (is_object_name c.name) c.parent
  pub interfaces : All IsClassText c.interfaces
  pub fields : All IsListedField c.fields
  pub methods : All IsListedMethod c.methods
