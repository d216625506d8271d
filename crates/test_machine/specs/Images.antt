-- How the examples write images: whole, as linking makes them of the definitions in them; the crate law_linked shows it of each.
-- Lines are left out, and flags that say nothing to the machine, as `public` and `constructor`.
use Rattle.std.specs.Prelude.{ℕ, true, false, List, [], ◌∷◌, map, Option, Some, None, codes, option_to_list}
use Rattle.dv_defs.specs.declared.names.Base.TheVariants as base
use Rattle.dv_defs.specs.declared.names.Ty.{Ty}
use Rattle.dv_defs.specs.declared.names.FieldRef.{FieldRef}
use Rattle.dv_defs.specs.declared.names.MethodRef.{MethodRef}
use Rattle.dv_defs.specs.declared.names.ClassId.{ClassId}
use Rattle.dv_defs.specs.declared.names.MethodId.{MethodId}
use Rattle.dv_defs.specs.declared.names.FieldId.{FieldId}
use Rattle.dv_defs.specs.declared.code.Body.{Body}
use Rattle.dv_defs.specs.declared.code.Try.{Try}
use Rattle.dv_defs.specs.declared.code.Handler.{Handler}
use Rattle.dv_defs.specs.declared.flags.Flag.TheVariants as flag
use Rattle.dv_defs.specs.Flags.{has_flag}
use Rattle.dv_defs.specs.declared.class.Init.{Init}
use Rattle.dv_defs.specs.declared.class.Init.TheVariants as init
use Rattle.dv_defs.specs.declared.class.ClassDef.{ClassDef}
use Rattle.dv_defs.specs.declared.class.FieldDef.{FieldDef}
use Rattle.dv_defs.specs.declared.class.MethodDef.{MethodDef}
use Rattle.dv_defs.specs.declared.image.ClassInfo.{ClassInfo}
use Rattle.dv_defs.specs.declared.image.FieldInfo.{FieldInfo}
use Rattle.dv_defs.specs.declared.image.MethodInfo.{MethodInfo}
use Rattle.dv_defs.specs.declared.image.Select.{Select}
use Rattle.dv_defs.specs.declared.image.Select.TheVariants as select
use Rattle.dv_defs.specs.Types.{of_base, of_class}

abbrev pub of_int : Ty
of_int = of_base base.I

abbrev pub of_long : Ty
of_long = of_base base.J

abbrev pub of_char : Ty
of_char = of_base base.C

abbrev pub of_boolean : Ty
of_boolean = of_base base.Z

abbrev pub of_byte : Ty
of_byte = of_base base.B

-- a handler of the type at a place of the body's pool, and one that catches all
abbrev pub catch_type : ℕ → ℕ → Handler
catch_type kind to = record { kind = Some kind; at = to }

abbrev pub catch_all : ℕ → Handler
catch_all to = record { kind = None; at = to }

-- from a start up to an end, with its handlers
abbrev pub entry_over : ℕ → ℕ → List Handler → Try
entry_over start end handlers = record { start = start; end = end; handlers = handlers }

-- registers, units, try entries, strings and types
abbrev pub body_with : ℕ → List ℕ → List Try → List (List ℕ) → List Ty → Body
body_with registers units tries strings types =
    record {
      registers = registers;
      units = units;
      tries = tries;
      strings = strings;
      types = types;
      fields = [];
      methods = [];
      raw = false;
    }

-- a body that catches nothing, without strings and types
abbrev pub body : ℕ → List ℕ → Body
body registers units = body_with registers units [] [] []

-- a field as a body names it: by class, name and type
abbrev pub field_ref : List ℕ → List ℕ → Ty → FieldRef
field_ref class name t = record { class = of_class class; name = name; ty = t }

-- a method as a body names it: by class, name, parameters and result
abbrev pub method_ref : List ℕ → List ℕ → List Ty → Option Ty → MethodRef
method_ref class name params ret =
    record { class = of_class class; name = name; proto = record { params = params; ret = ret } }

-- two that many bodies name
abbrev pub object_init_ref : MethodRef
object_init_ref = method_ref (codes "Ljava/lang/Object;") (codes "<init>") [] None

abbrev pub println_ref : MethodRef
println_ref = method_ref (codes "Ldvm/Console;") (codes "println") (of_int ∷ []) None

-- a body with the fields and methods that it names
abbrev pub naming : List FieldRef → List MethodRef → Body → Body
naming fields methods b = record b { fields = fields; methods = methods }

-- name, parameters, result, flags: static 0x8, native 0x400, abstract 0x1000
abbrev pub method : List ℕ → List Ty → Option Ty → ℕ → Option Body → MethodDef
method name params ret flags b = record { name = name; proto = record { params = params; ret = ret }; flags = flags; body = b }

abbrev pub field : List ℕ → Ty → ℕ → FieldDef
field name t flags = record { name = name; ty = t; flags = flags; init = init.Absent }

-- a static field with its value
abbrev pub with_init : Init → FieldDef → FieldDef
with_init i f = record { name = f.name; ty = f.ty; flags = f.flags; init = i }

abbrev pub class_ids : List ℕ → List ClassId
class_ids cs = map (λ c. record { 0 = c }) cs

abbrev pub field_ids : List ℕ → List FieldId
field_ids xs = map (λ x. record { 0 = x }) xs

abbrev pub method_ids : List ℕ → List MethodId
method_ids ms = map (λ m. record { 0 = m }) ms

-- a superclass, where there is one
abbrev pub numbered : Option ℕ → Option ClassId
numbered None = None
numbered (Some c) = Some (record { 0 = c })

-- name, superclass, interfaces, flags (final 0x10, interface 0x800), fields, methods
abbrev pub class : List ℕ → Option (List ℕ) → List (List ℕ) → ℕ → List FieldDef → List MethodDef → ClassDef
class name parent interfaces flags fields methods =
    record {
      name = name;
      parent = parent;
      interfaces = interfaces;
      flags = flags;
      fields = fields;
      methods = methods;
      line = 0;
    }

-- before a class its superclass is initialised, before an interface nothing
abbrev pub before : ClassDef → Option ℕ → List ClassId
before def parent = elim (has_flag def.flags flag.Interface) [ true ↦ [] | false ↦ option_to_list (numbered parent) ]

-- a class with what linking finds: its superclass, its interfaces, the fields of an object, what calls on an object select
abbrev pub linked_selecting : Option ℕ → List ℕ → List ℕ → List Select → ClassDef → ClassInfo
linked_selecting parent interfaces slots table def =
    record {
      def = def;
      parent = numbered parent;
      interfaces = class_ids interfaces;
      slots = field_ids slots;
      table = table;
      prior = before def parent;
    }

-- where interfaces with default methods are initialised before it too
abbrev pub initialised_after : List ℕ → ClassInfo → ClassInfo
initialised_after cs c = record c { prior = class_ids cs }

-- methods that are selected
abbrev pub found : List ℕ → List Select
found ms = map (λ m. select.Found (record { 0 = m })) ms

-- where each call selects a method
abbrev pub linked : Option ℕ → List ℕ → List ℕ → List ℕ → ClassDef → ClassInfo
linked parent interfaces slots table def = linked_selecting parent interfaces slots (found table) def

-- class and place, with the types, fields and methods that the body names
abbrev pub info : ℕ → ℕ → List Ty → List ℕ → List ℕ → MethodInfo
info c place types fields methods =
    record {
      class = record { 0 = c };
      place = place;
      types = types;
      fields = field_ids fields;
      methods = method_ids methods;
    }

-- of a method without a body, or whose body names nothing
abbrev pub bare : ℕ → ℕ → MethodInfo
bare c place = info c place [] [] []

-- class, place and first cell
abbrev pub field_info : ℕ → ℕ → ℕ → FieldInfo
field_info c place slot = record { class = record { 0 = c }; place = place; slot = slot }
