-- The parts of a class among what its lines tell.
use Rattle.std.proofs.Common.{◌≡◌, ℕ, List, [], ◌∷◌, refl, ap}
use Rattle.std.specs.Prelude.{Option, Some, None}
use Rattle.dv_defs.specs.Field.{FieldValue}
use Rattle.dv_classread.specs.declared.class_line.ClassLine.TheVariants as line
use Rattle.dv_classread.specs.declared.program.MethodDraft.{MethodDraft}
use Rattle.dv_classread.specs.Classes.{classes_in, fields_in, interfaces_in, methods_in, superclass_in}
use Rattle.dv_classread.specs.Texts.{Told, Says, Method}

-- these parts are told, and no class
pub record HaveParts (ts : List Told) (super : Option (List ℕ)) (names : List (List ℕ)) (fs : List FieldValue) (ms : List MethodDraft) : Type 0 where
  pub parent : superclass_in ts ≡ super
  pub interfaces : interfaces_in ts ≡ names
  pub fields : fields_in ts ≡ fs
  pub methods : methods_in ts ≡ ms
  pub classes : classes_in ts ≡ []

pub no_part : HaveParts [] None [] [] []
unfolding superclass_in interfaces_in fields_in methods_in classes_in
no_part = record { parent = refl; interfaces = refl; fields = refl; methods = refl; classes = refl }

module _ (ts : List Told) (super : Option (List ℕ)) (names : List (List ℕ)) (fs : List FieldValue) (ms : List MethodDraft) (h : HaveParts ts super names fs ms) where
  pub and_superclass : (name : List ℕ) → HaveParts (Says (line.Super name) ∷ ts) (Some name) names fs ms
  unfolding superclass_in interfaces_in fields_in methods_in classes_in
  and_superclass name = record { parent = refl; interfaces = h.interfaces; fields = h.fields; methods = h.methods; classes = h.classes }

  pub and_interface : (name : List ℕ) → HaveParts (Says (line.Implements name) ∷ ts) super (name ∷ names) fs ms
  unfolding superclass_in interfaces_in fields_in methods_in classes_in
  and_interface name = record { parent = h.parent; interfaces = ap (λ xs. name ∷ xs) h.interfaces; fields = h.fields; methods = h.methods; classes = h.classes }

  pub and_field : (f : FieldValue) → HaveParts (Says (line.Field f) ∷ ts) super names (f ∷ fs) ms
  unfolding superclass_in interfaces_in fields_in methods_in classes_in
  and_field f = record { parent = h.parent; interfaces = h.interfaces; fields = ap (λ xs. f ∷ xs) h.fields; methods = h.methods; classes = h.classes }

  pub and_method : (m : MethodDraft) → HaveParts (Method m ∷ ts) super names fs (m ∷ ms)
  unfolding superclass_in interfaces_in fields_in methods_in classes_in
  and_method m = record { parent = h.parent; interfaces = h.interfaces; fields = h.fields; methods = ap (λ xs. m ∷ xs) h.methods; classes = h.classes }
