-- What a line, or a method, adds to the classes so far.
use Rattle.std.proofs.Common.{◌≡◌, ℕ, true, false, List, [], ◌∷◌, ◌++◌, Option, Some, None, refl, sym, ap, ◌∙◌, append_assoc, append-nil}
use Rattle.std.specs.Prelude.{is_some}
use Rattle.std.specs.Option.{option_or, option_to_list}
use Rattle.dv_defs.specs.Field.{FieldValue}
use Rattle.dv_classread.specs.declared.class_line.ClassHead.{ClassHead}
use Rattle.dv_classread.specs.declared.class_line.ClassLine.TheVariants as line
use Rattle.dv_classread.specs.declared.class_line.Signature.{Signature}
use Rattle.dv_classread.specs.declared.program.ClassDraft.{ClassDraft}
use Rattle.dv_classread.specs.declared.program.MethodDraft.{MethodDraft}
use Rattle.dv_classread.specs.declared.program.ClassesSoFar.{ClassesSoFar}
use Rattle.dv_classread.specs.Texts.{Told, Says, Method}
use Rattle.dv_classread.specs.Classes.{Adds, class_with, classes_in, classes_with, fields_in, interfaces_in, last_with, methods_in, superclass_in, whole_classes}
use Rattle.dv_coderead.proofs.Adding.{pushed}

-- where there is none
pub not_some : {A : Type 0} (x : Option A) → is_some x ≡ false → x ≡ None
not_some None isnt = refl
not_some (Some a) isnt = absurd (cc)

-- the first of two options counts, if it is there
first_kept : {A : Type 0} (x y z : Option A) → is_some x ≡ true → option_or x y ≡ option_or x z
first_kept None y z some = absurd (cc)
first_kept (Some a) y z some = refl

-- ---- what adds to no class

module _ (p : ClassesSoFar) (t : Told) (none : p.last ≡ None) where
  -- before the first class nothing is added but a class
  pub nowhere : ((ts : List Told) → classes_in (t ∷ ts) ≡ classes_in ts) → Adds p t p
  nowhere same ts =
      ap (λ (c : Option ClassDraft). p.classes.items ++ last_with c ts ++ classes_in ts) none
      ∙ ap (λ cs. p.classes.items ++ [] ++ cs) (sym (same ts))
      ∙ sym (ap (λ (c : Option ClassDraft). p.classes.items ++ last_with c (t ∷ ts) ++ classes_in (t ∷ ts)) none)

-- there is no last class
pub none_last : (last : Option ClassDraft) → ((c : ClassDraft) → last ≡ Some c → ⊥) → last ≡ None
none_last None isnt = refl
none_last (Some c) isnt = absurd (isnt c refl)

module _ (p : ClassesSoFar) where
  pub nowhere_superclass : (name : List ℕ) → p.last ≡ None → Adds p (Says (line.Super name)) p
  unfolding classes_in
  nowhere_superclass name none = nowhere p (Says (line.Super name)) none (λ ts. refl)

  pub nowhere_interface : (name : List ℕ) → p.last ≡ None → Adds p (Says (line.Implements name)) p
  unfolding classes_in
  nowhere_interface name none = nowhere p (Says (line.Implements name)) none (λ ts. refl)

  pub nowhere_field : (f : FieldValue) → p.last ≡ None → Adds p (Says (line.Field f)) p
  unfolding classes_in
  nowhere_field f none = nowhere p (Says (line.Field f)) none (λ ts. refl)

  pub nowhere_method : (m : MethodDraft) → p.last ≡ None → Adds p (Method m) p
  unfolding classes_in
  nowhere_method m none = nowhere p (Method m) none (λ ts. refl)

-- ---- what adds to the last class

module _ (p : ClassesSoFar) (c : ClassDraft) (is : p.last ≡ Some c) where
  to_last : (t : Told) (d : ClassDraft) → ((ts : List Told) → classes_in (t ∷ ts) ≡ classes_in ts) → ((ts : List Told) → class_with d ts ≡ class_with c (t ∷ ts))
      → Adds p t (record p { last = Some d })
  to_last t d same with_it ts =
      ap (λ (e : ClassDraft). p.classes.items ++ (e ∷ []) ++ classes_in ts) (with_it ts)
      ∙ ap (λ cs. p.classes.items ++ (class_with c (t ∷ ts) ∷ []) ++ cs) (sym (same ts))
      ∙ sym (ap (λ (e : Option ClassDraft). p.classes.items ++ last_with e (t ∷ ts) ++ classes_in (t ∷ ts)) is)

  pub adds_interface : (name : List ℕ) (new : List (List ℕ)) → new ≡ c.interfaces ++ name ∷ [] → Adds p (Says (line.Implements name)) (record p { last = Some (record c { interfaces = new }) })
  unfolding classes_in superclass_in interfaces_in fields_in methods_in
  adds_interface name new more = to_last (Says (line.Implements name)) (record c { interfaces = new }) (λ ts. refl)
      (λ ts. ap (λ xs. record (class_with c ts) { interfaces = xs }) (pushed c.interfaces name (interfaces_in ts) more))

  pub adds_field : (f : FieldValue) (new : List FieldValue) → new ≡ c.fields ++ f ∷ [] → Adds p (Says (line.Field f)) (record p { last = Some (record c { fields = new }) })
  unfolding classes_in superclass_in interfaces_in fields_in methods_in
  adds_field f new more = to_last (Says (line.Field f)) (record c { fields = new }) (λ ts. refl)
      (λ ts. ap (λ xs. record (class_with c ts) { fields = xs }) (pushed c.fields f (fields_in ts) more))

  pub adds_method : (m : MethodDraft) (new : List MethodDraft) → new ≡ c.methods ++ m ∷ [] → Adds p (Method m) (record p { last = Some (record c { methods = new }) })
  unfolding classes_in superclass_in interfaces_in fields_in methods_in
  adds_method m new more = to_last (Method m) (record c { methods = new }) (λ ts. refl)
      (λ ts. ap (λ xs. record (class_with c ts) { methods = xs }) (pushed c.methods m (methods_in ts) more))

  -- a superclass, where none was told
  pub adds_superclass : (name : List ℕ) → c.parent ≡ None → Adds p (Says (line.Super name)) (record p { last = Some (record c { parent = Some name }) })
  unfolding classes_in superclass_in interfaces_in fields_in methods_in
  adds_superclass name none = to_last (Says (line.Super name)) (record c { parent = Some name }) (λ ts. refl)
      (λ ts. ap (λ x. record (class_with c ts) { parent = x }) (sym (ap (λ x. option_or x (Some name)) none)))

  -- another superclass adds nothing
  pub keeps_superclass : (name : List ℕ) → is_some c.parent ≡ true → Adds p (Says (line.Super name)) (record p { last = Some c })
  unfolding classes_in superclass_in interfaces_in fields_in methods_in
  keeps_superclass name some = to_last (Says (line.Super name)) c (λ ts. refl)
      (λ ts. ap (λ x. record (class_with c ts) { parent = x }) (first_kept c.parent (superclass_in ts) (Some name) some))

-- ---- what adds nothing

module _ (p : ClassesSoFar) where
  other_with : (t : Told) → ((ts : List Told) → classes_in (t ∷ ts) ≡ classes_in ts) → ((c : ClassDraft) (ts : List Told) → class_with c (t ∷ ts) ≡ class_with c ts)
      → (c : Option ClassDraft) (ts : List Told) → last_with c ts ≡ last_with c (t ∷ ts)
  other_with t same keeps None ts = refl
  other_with t same keeps (Some c) ts = ap (λ (e : ClassDraft). e ∷ []) (sym (keeps c ts))

  pub adds_source : Adds p (Says line.Source) p
  unfolding classes_in superclass_in interfaces_in fields_in methods_in
  adds_source ts = ap (λ cs. p.classes.items ++ cs ++ classes_in ts) (other_with (Says line.Source) (λ ts. refl) (λ c ts. refl) p.last ts)

  pub adds_signature : (sig : Signature) → Adds p (Says (line.Method sig)) p
  unfolding classes_in superclass_in interfaces_in fields_in methods_in
  adds_signature sig ts = ap (λ cs. p.classes.items ++ cs ++ classes_in ts) (other_with (Says (line.Method sig)) (λ ts. refl) (λ c ts. refl) p.last ts)

-- ---- a class

class_parts : ClassDraft → ClassDraft
class_parts c = record c { parent = option_or c.parent None; interfaces = c.interfaces ++ []; fields = c.fields ++ []; methods = c.methods ++ [] }

or_none : {A : Type 0} (x : Option A) → option_or x None ≡ x
or_none None = refl
or_none (Some x) = refl

-- a class behind which nothing more is told
module _ (c : ClassDraft) where
  alone : class_parts c ≡ c
  unfolding class_parts
  alone =
      ap (λ x. record c { parent = x; interfaces = c.interfaces ++ []; fields = c.fields ++ []; methods = c.methods ++ [] }) (or_none c.parent)
      ∙ ap (λ xs. record c { interfaces = xs; fields = c.fields ++ []; methods = c.methods ++ [] }) (append-nil c.interfaces)
      ∙ ap (λ xs. record c { fields = xs; methods = c.methods ++ [] }) (append-nil c.fields)
      ∙ ap (λ xs. record c { methods = xs }) (append-nil c.methods)

  closed_with : (h : ClassHead) (ts : List Told) → class_with c (Says (line.Class h) ∷ ts) ≡ c
  unfolding class_parts superclass_in interfaces_in fields_in methods_in
  closed_with h ts = alone

  closed_end : class_with c [] ≡ c
  unfolding class_parts superclass_in interfaces_in fields_in methods_in
  closed_end = alone

-- the class that begins with this line
abbrev pub begun : ClassHead → ClassDraft
begun h = record { head = h; parent = None; interfaces = []; fields = []; methods = [] }

last_closed : (last : Option ClassDraft) (h : ClassHead) (ts : List Told) → last_with last (Says (line.Class h) ∷ ts) ≡ option_to_list last
last_closed None h ts = refl
last_closed (Some c) h ts = ap (λ (d : ClassDraft). d ∷ []) (closed_with c h ts)

last_end : (last : Option ClassDraft) → last_with last [] ≡ option_to_list last
last_end None = refl
last_end (Some c) = ap (λ (d : ClassDraft). d ∷ []) (closed_end c)

module _ (p : ClassesSoFar) where
  pub adds_class : (h : ClassHead) (new : ClassesSoFar) → new.classes.items ≡ whole_classes p → new.last ≡ Some (begun h) → Adds p (Says (line.Class h)) new
  unfolding classes_in
  adds_class h new classes last ts =
      ap (λ cs. cs ++ last_with new.last ts ++ classes_in ts) classes
      ∙ ap (λ (c : Option ClassDraft). whole_classes p ++ last_with c ts ++ classes_in ts) last
      ∙ append_assoc (whole_classes p) (class_with (begun h) ts ∷ []) (classes_in ts)
      ∙ sym (ap (λ cs. (p.classes.items ++ cs) ++ class_with (begun h) ts ∷ classes_in ts) (last_closed p.last h ts))

  -- behind the last line
  pub whole_end : whole_classes p ≡ classes_with p []
  unfolding classes_in
  whole_end = ap (λ cs. p.classes.items ++ cs) (sym (last_end p.last)) ∙ sym (append-nil (p.classes.items ++ last_with p.last []))
