-- The parts of a class among what is told, where further classes stand behind it.
use Rattle.std.proofs.Common.{◌≡◌, ℕ, List, [], ◌∷◌, ◌++◌, refl, ap, ◌∙◌}
use Rattle.std.specs.Prelude.{None}
use Rattle.dv_defs.specs.declared.class.ClassDef.{ClassDef}
use Rattle.dv_classread.specs.declared.class_line.ClassHead.{ClassHead}
use Rattle.dv_classread.specs.declared.class_line.ClassLine.TheVariants as line
use Rattle.dv_classread.specs.declared.program.ClassDraft.{ClassDraft}
use Rattle.dv_classread.specs.declared.program.MethodDraft.{MethodDraft}
use Rattle.dv_classread.specs.Classes.{class_by, classes_in, fields_by, fields_in, interfaces_by, interfaces_in, methods_by, methods_in, superclass_by, superclass_in}
use Rattle.dv_classread.specs.Texts.{Told, Says}
use Rattle.law_listing.proofs.ClassListing.Parts.{HaveParts}

-- nothing, or what begins with a class: no part of the class before it
pub record HasNoPart (ts : List Told) : Type 0 where
  pub parent : superclass_in ts ≡ None
  pub interfaces : interfaces_in ts ≡ []
  pub fields : fields_in ts ≡ []
  pub methods : methods_in ts ≡ []

pub nothing_has_no_part : HasNoPart []
unfolding superclass_in interfaces_in fields_in methods_in
nothing_has_no_part = record { parent = refl; interfaces = refl; fields = refl; methods = refl }

pub class_has_no_part : (head : ClassHead) (ts : List Told) → HasNoPart (Says (line.Class head) ∷ ts)
unfolding superclass_in interfaces_in fields_in methods_in
class_has_no_part head ts = record { parent = refl; interfaces = refl; fields = refl; methods = refl }

superclass_behind : (ts us : List Told) → superclass_in us ≡ None → superclass_in (ts ++ us) ≡ superclass_in ts
unfolding superclass_in
superclass_behind [] us none = none
superclass_behind (t ∷ ts) us none = ap (superclass_by t) (superclass_behind ts us none)

interfaces_behind : (ts us : List Told) → interfaces_in us ≡ [] → interfaces_in (ts ++ us) ≡ interfaces_in ts
unfolding interfaces_in
interfaces_behind [] us none = none
interfaces_behind (t ∷ ts) us none = ap (interfaces_by t) (interfaces_behind ts us none)

fields_behind : (ts us : List Told) → fields_in us ≡ [] → fields_in (ts ++ us) ≡ fields_in ts
unfolding fields_in
fields_behind [] us none = none
fields_behind (t ∷ ts) us none = ap (fields_by t) (fields_behind ts us none)

methods_behind : (ts us : List Told) → methods_in us ≡ [] → methods_in (ts ++ us) ≡ methods_in ts
unfolding methods_in
methods_behind [] us none = none
methods_behind (t ∷ ts) us none = ap (methods_by t) (methods_behind ts us none)

-- what begins no class
no_class_by : (t : Told) (ts us : List Told) (cs ds : List ClassDraft) → class_by t ts cs ≡ [] → (class_by t us ds ≡ ds) × (cs ≡ [])
no_class_by (Says (line.Class c)) ts us cs ds e = absurd (cc)
no_class_by t ts us cs ds e = (refl, e)

classes_behind : (ts us : List Told) → classes_in ts ≡ [] → classes_in (ts ++ us) ≡ classes_in us
unfolding classes_in
classes_behind [] us none = refl
classes_behind (t ∷ ts) us none =
    let h = no_class_by t ts (ts ++ us) (classes_in ts) (classes_in (ts ++ us)) none in
    h.0 ∙ classes_behind ts us h.1

-- ---- a class and those behind it

abbrev pub head_at : ℕ → ClassDef → ClassHead
head_at n c = record { name = c.name; flags = c.flags; line = n }

-- the class before its bodies are assembled
abbrev pub draft_at : ℕ → ClassDef → List MethodDraft → ClassDraft
draft_at n c ds = record {
  head = head_at n c;
  parent = c.parent;
  interfaces = c.interfaces;
  fields = c.fields;
  methods = ds;
}

pub class_first : (n : ℕ) (c : ClassDef) (ts us : List Told) (ds : List MethodDraft) → HaveParts ts c.parent c.interfaces c.fields ds → HasNoPart us
    → classes_in (Says (line.Class (head_at n c)) ∷ (ts ++ us)) ≡ draft_at n c ds ∷ classes_in us
unfolding classes_in
class_first n c ts us ds h none =
    rw (superclass_behind ts us none.parent, interfaces_behind ts us none.interfaces, fields_behind ts us none.fields, methods_behind ts us none.methods, classes_behind ts us h.classes, h.parent, h.interfaces, h.fields, h.methods) refl
