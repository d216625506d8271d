-- What the laws take of an accepted image, made once of its linking and of a typing of each method.
use Rattle.std.specs.Prelude.{◌≡◌, ◌||◌, ◌≤◌, ◌<◌, ℕ, ◌+◌, true, false, List, [], ◌∷◌, length, Option, Some, None, All, bytes_eq, codes}
use Rattle.dv_defs.specs.declared.names.Proto.{Proto}
use Rattle.dv_defs.specs.declared.names.Ty.{Ty}
use Rattle.dv_defs.specs.declared.names.MethodId.{MethodId}
use Rattle.dv_defs.specs.declared.image.Select.TheVariants as select
use Rattle.dv_defs.specs.declared.code.Body.{Body}
use Rattle.dv_defs.specs.Images.{Image}
use Rattle.dv_defs.specs.declared.run.Named.{Named}
use Rattle.dv_defs.specs.declared.run.Named.TheVariants as named
use Rattle.dv_defs.specs.declared.run.Native.{Native}
use Rattle.dv_typing.specs.declared.typing.RegType.TheVariants as ty
use Rattle.dv_typing.specs.declared.typing.RegState.{RegState}
use Rattle.dv_defs.specs.Names.{object_name, class_name, string_name, thread_name, throwable_name, stack_overflow_name, stream_name, system_name}
use Rattle.dv_defs.specs.Field.{may_stand}
use Rattle.dv_machine.specs.Conforming.{is_string_or_class}
use Rattle.dv_defs.specs.Types.{of_class, words_of}
use Rattle.dv_defs.specs.Pools.{Method, Field, method_at, field_at, is_static, is_static_field, is_constructor, is_abstract, is_interface, class_type, class_named, name_at, parent_at, initialiser, no_arguments}
use Rattle.dv_defs.specs.Order.{instance, fits, has_number}
use Rattle.dv_defs.specs.LookUp.{method_classes}
use Rattle.dv_defs.specs.Selecting.{selected}
use Rattle.dv_defs.specs.Op.{Code, code_at, can_throw}
use Rattle.dv_typing.specs.Statics.{At, fetch, op_rules, arg_words}
use Rattle.dv_typing.specs.RegTypes.{type_at, reg_types}
use Rattle.dv_typing.specs.Demands.{demands}
use Rattle.dv_typing.specs.Transfer.{entry_state, out}
use Rattle.dv_typing.specs.Flow.{Typing, Leads, handlers_at, thrown_at, targets, caught_state}
use Rattle.dv_machine.specs.Heap.{class_cells}
use Rattle.dv_machine.specs.Calls.{native_of, signature}
use Rattle.dv_machine.specs.Unwinding.{exception_name, number_named, throwable_slot}
use Rattle.dv_machine.specs.WellTyped.{Typings}
use Rattle.law_types.specs.Hierarchy.{IsHierarchy, IsOrder}

-- ---- what acceptance gives

-- an instruction that has a state: it is satisfied, its state flows on to instructions, and it breaks no static rule
pub record IsFine (image : Image) (T : Typing) (code : Code) (at : ℕ) (x : At) (s : RegState) : Type 0 where
  pub ok : demands image code.method x.op s ≡ None
  pub flows : All (Leads image T (out image code.method at x.op s)) (targets x)
  pub handled : can_throw x.op ≡ true → All (λ h. Leads image T (caught_state s h) h.to) (handlers_at image code.method.id (thrown_at at x))
  pub reference : Option Ty
  pub rules : op_rules image code reference x.op ≡ []

-- a typing of each method, with what each address owes
pub record IsTyped (image : Image) (T : Typings) : Type 0 where
  pub entry : (n : ℕ) (code : Code) → code_at image n ≡ Some code → Leads image (T n) (entry_state image code.method code.body.registers) 0
  pub room : (n : ℕ) (code : Code) → code_at image n ≡ Some code → arg_words code.method ≤ code.body.registers
  pub each :
      (n at : ℕ) (s : RegState) → T n at ≡ Some s →
      (code : Code) × (x : At) × (code_at image n ≡ Some code) × (fetch image n at ≡ Some x) ×
      IsFine image (T n) code at x s

-- ---- what linking gives

-- a field keeps its cells in each class below the one that declares it
pub record KeepsSlots (image : Image) : Type 0 where
  pub at :
      (c x : ℕ) (f : Field) → field_at image x ≡ Some f → is_static_field f ≡ false →
      is_interface image f.info.class.0 ≡ false → c < length image.classes →
      instance image (class_type image c) (class_type image f.info.class.0) ≡ true → (j : ℕ) → j < words_of f.def.ty →
      type_at (class_cells image c) (f.info.slot + j) ≡ type_at (reg_types f.def.ty) j

-- a method that a call on an object of a class can run: the class, a superclass or a superinterface declares it
pub record IsSelected (image : Image) (c : ℕ) (name : List ℕ) (p : Proto) (m : Method) : Type 0 where
  pub named : m.def.name ≡ name
  pub proto : m.def.proto ≡ p
  pub instance : is_static m ≡ false
  pub concrete : is_abstract m ≡ false
  pub among : has_number m.info.class.0 (method_classes image c) ≡ true

-- what look-ups give, of any image
pub record FindsRightly (image : Image) : Type 0 where
  pub methods : (n : ℕ) (m : Method) → method_at image n ≡ Some m → m.id ≡ n
  pub fields : (x : ℕ) (f : Field) → field_at image x ≡ Some f → f.id ≡ x
  pub initialisers :
      (c : ℕ) (m : Method) → initialiser image c ≡ Some m →
      (method_at image m.id ≡ Some m) × (is_static m ≡ true) × (m.def.proto ≡ no_arguments) × (m.info.class.0 ≡ c) ×
      ((b : Body) × (m.def.body ≡ Some b))
  pub selected_is :
      (c : ℕ) (name : List ℕ) (p : Proto) (id : MethodId) → selected image c name p ≡ select.Found id →
      (m : Method) × (method_at image id.0 ≡ Some m) × IsSelected image c name p m

-- a method that is neither abstract nor one of the natives has a body; a native has its own prototype
pub record HasBodies (image : Image) : Type 0 where
  pub body :
      (n : ℕ) (m : Method) → method_at image n ≡ Some m → is_abstract m ≡ false → native_of image m ≡ None →
      (b : Body) × (m.def.body ≡ Some b)
  pub native :
      (n : ℕ) (m : Method) (k : Native) → method_at image n ≡ Some m → native_of image m ≡ Some k →
      (m.def.proto ≡ (signature k).proto) × (is_static m ≡ (signature k).is_static)

-- a method's resolved pools are those of its body
pub record HasPools (image : Image) : Type 0 where
  pub types : (n : ℕ) (code : Code) → code_at image n ≡ Some code → code.method.info.types ≡ code.body.types

-- a field's value stands on a static field that it fits
pub record HasInits (image : Image) : Type 0 where
  pub inits : (x : ℕ) (f : Field) → field_at image x ≡ Some f → may_stand f.def.init f.def.ty f.def.flags ≡ true

-- a class that is there
abbrev pub IsNamed : Image → List ℕ → Type 0
IsNamed image name = (c : ℕ) × (class_named image name ≡ Some c)

-- the boot classes that a step names, each with what the step counts on
pub record HasBoot (image : Image) : Type 0 where
  pub there : All (IsNamed image) (object_name ∷ class_name ∷ string_name ∷ thread_name ∷ throwable_name ∷ stream_name ∷ stack_overflow_name ∷ [])
  pub exceptions : (n : Named) → IsNamed image (exception_name n)
  pub thrown : (n : Named) → fits image (of_class (exception_name n)) (of_class throwable_name) ≡ true
  pub overflows : fits image (of_class stack_overflow_name) (of_class throwable_name) ≡ true
  -- String and Class have no constructor, and no class but Object above them: so no reference is to a bare object of theirs
  pub no_bare :
      (n : ℕ) (m : Method) → method_at image n ≡ Some m → is_constructor m ≡ true →
      is_string_or_class (name_at image m.info.class.0) ≡ false
  pub alone : (c p : ℕ) → is_string_or_class (name_at image c) ≡ true → parent_at image c ≡ Some p → name_at image p ≡ object_name
  -- they and Object declare no instance field: strings, Class objects and arrays have no cell for one
  pub no_fields :
      (x : ℕ) (f : Field) → field_at image x ≡ Some f → is_static_field f ≡ false →
      (bytes_eq (name_at image f.info.class.0) object_name || is_string_or_class (name_at image f.info.class.0)) ≡
      false
  pub cause :
      type_at (class_cells image (number_named image (exception_name named.InInitializer)))
      (throwable_slot image (codes "cause")) ≡ ty.Class (of_class throwable_name)
  -- System.out, the one static field that the opening fills
  pub out :
      (x : ℕ) (f : Field) → field_at image x ≡ Some f → name_at image f.info.class.0 ≡ system_name →
      f.def.name ≡ codes "out" → (is_static_field f ≡ true) × (f.def.ty ≡ of_class stream_name)

-- all of it
pub record Accepted (image : Image) (T : Typings) : Type 0 where
  pub hierarchy : IsHierarchy image
  pub order : IsOrder image
  pub slots : KeepsSlots image
  pub finds : FindsRightly image
  pub bodies : HasBodies image
  pub pools : HasPools image
  pub inits : HasInits image
  pub boot : HasBoot image
  pub typed : IsTyped image T
