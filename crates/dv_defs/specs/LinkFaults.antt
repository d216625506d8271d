-- Why classes aren't linked: the first fault, phase by phase.
use Rattle.std.specs.Prelude.{◌≡◌, ℕ, suc, ◌*◌, Bool, true, false, ◌&&◌, ◌||◌, not, List, length, take, drop, filter_map, sum_by, position, Option, Some, None, is_some, is_none, Result, Ok, Err, slice_get, nat_eq, nat_lt, bytes_eq, option_map, option_and_then}
use Rattle.std.specs.Option.{option_or}
use Rattle.std.specs.List.{list_any}
use Rattle.dv_defs.specs.declared.names.Ty.{Ty}
use Rattle.dv_defs.specs.declared.names.Proto.{Proto}
use Rattle.dv_defs.specs.declared.names.FieldRef.{FieldRef}
use Rattle.dv_defs.specs.declared.names.MethodRef.{MethodRef}
use Rattle.dv_defs.specs.declared.code.Body.{Body}
use Rattle.dv_defs.specs.declared.class.ClassDef.{ClassDef}
use Rattle.dv_defs.specs.declared.class.FieldDef.{FieldDef}
use Rattle.dv_defs.specs.declared.class.MethodDef.{MethodDef}
use Rattle.dv_defs.specs.declared.flags.Flag.TheVariants as flag
use Rattle.dv_defs.specs.declared.faults.Which.{Which}
use Rattle.dv_defs.specs.declared.faults.Which.TheVariants as which
use Rattle.dv_defs.specs.declared.faults.LinkKind.{LinkKind}
use Rattle.dv_defs.specs.declared.faults.LinkKind.TheVariants as kind
use Rattle.dv_defs.specs.declared.faults.LinkError.{LinkError}
use Rattle.dv_defs.specs.declared.faults.LinkError.TheVariants as error
use Rattle.dv_defs.specs.Images.{Image}
use Rattle.dv_defs.specs.First.{first_below, first_in, when}
use Rattle.dv_defs.specs.Names.{object_name, init_name}
use Rattle.dv_defs.specs.Flags.{has_flag}
use Rattle.dv_defs.specs.Types.{class_in, ty_eq, same_proto}
use Rattle.dv_defs.specs.Written.{field_text, method_text}
use Rattle.dv_defs.specs.Pools.{class_named, flags_of, methods_of, supers}
use Rattle.dv_defs.specs.Order.{above, any_of, implements, names_interface}
use Rattle.dv_defs.specs.Boot.{Row, word, class_rows, has_row, is_in_table}
use Rattle.dv_defs.specs.LookUp.{field_named, method_named}

-- a fault with the class of which it is told
pub record Found : Type 0 where
  pub class : List ℕ
  pub kind : LinkKind

abbrev pub found : List ℕ → LinkKind → Found
found class k = record { class = class; kind = k }

-- an error tells this fault, or that memory was wanting
abbrev pub Fails : LinkError → Option Found → Type 0
Fails error.Memory fault = Unit {0}
Fails (error.At class k) fault = fault ≡ Some (found class k)

-- a call finds just this fault
abbrev pub Checks : {Y : Type 0} → Result Y LinkError → Option Found → Type 0
Checks (Ok y) fault = fault ≡ None
Checks (Err e) fault = Fails e fault

-- a test of a class with its number
abbrev pub LinkTest : Type 0
LinkTest = ℕ → ClassDef → Option LinkKind

abbrev pub tested : LinkTest → ℕ → Option ClassDef → Option Found
tested test i None = None
tested test i (Some c) = option_map (found c.name) (test i c)

abbrev pub fault_at : LinkTest → List ClassDef → ℕ → Option Found
fault_at test cs i = tested test i (slice_get cs i)

-- what a test finds first, over classes in their order
abbrev pub first_fault_by : LinkTest → List ClassDef → Option Found
first_fault_by test cs = first_below (fault_at test cs) (length cs)

-- ---- 0. the boot classes are those of the table

abbrev pub not_there : List ℕ → Found
not_there name = found name (kind.NoClass name)

abbrev pub row_lacks : List ClassDef → Row → Option Found
row_lacks cs row = when (not (has_row cs row)) (not_there (word row 0))

abbrev pub is_foreign : ClassDef → Option Found
is_foreign c = when (not (is_in_table c.name)) (not_there c.name)

-- the table's first class that isn't there as the table has it, else the first class that the table doesn't have
unfoldable pub boot_fault : List ClassDef → ℕ → Option Found
boot_fault cs boot = option_or (first_in (row_lacks (take boot cs)) class_rows) (first_in is_foreign (take boot cs))

-- ---- 1. limits

abbrev pub body_cells : MethodDef → ℕ
body_cells m = elim m.body [ None ↦ 0 | Some b ↦ length b.units * b.registers ]

abbrev pub cells : ClassDef → ℕ
cells c = sum_by body_cells c.methods

-- the most classes, methods and fields of an image, and cells: registers of methods, one for each unit
abbrev pub most_classes : ℕ
most_classes = 1024

abbrev pub most_methods : ℕ
most_methods = 16384

abbrev pub most_fields : ℕ
most_fields = 16384

abbrev pub most_cells : ℕ
most_cells = 33554432

abbrev pub past : ℕ → ℕ → Which → Option LinkKind
past limit n w = when (nat_lt limit n) (kind.Limit w)

-- of the program's classes up to this one
abbrev pub past_limits : List ClassDef → Option LinkKind
past_limits cs =
    option_or (past most_classes (length cs) which.Classes)
    (option_or (past most_methods (sum_by (λ c. length c.methods) cs) which.Methods)
    (option_or (past most_fields (sum_by (λ c. length c.fields) cs) which.Fields)
    (past most_cells (sum_by cells cs) which.Cells)))

unfoldable pub limit_fault : List ClassDef → ℕ → Option Found
limit_fault cs boot = first_fault_by (λ i c. past_limits (take (suc i) (drop boot cs))) (drop boot cs)

-- ---- 2. an earlier class has the name

abbrev pub is_number : ℕ → Option ℕ → Bool
is_number i None = false
is_number i (Some j) = nat_eq i j

abbrev pub is_twice : Image → LinkTest
is_twice image i c = when (not (is_number i (class_named image c.name))) kind.ClassTwice

-- ---- 3. superclasses, interfaces and types

abbrev pub no_class : Image → List ℕ → Option LinkKind
no_class image name = elim (class_named image name) [ None ↦ Some (kind.NoClass name) | Some c ↦ None ]

-- of an array it is the class of its elements
abbrev pub no_type : Image → Ty → Option LinkKind
no_type image t = option_and_then (no_class image) (class_in t.base)

abbrev pub no_proto : Image → Proto → Option LinkKind
no_proto image p = option_or (first_in (no_type image) p.params) (option_and_then (no_type image) p.ret)

abbrev pub names_no_class : Image → ClassDef → Option LinkKind
names_no_class image c =
    option_or (option_and_then (no_class image) c.parent)
    (option_or (first_in (no_class image) c.interfaces)
    (option_or (first_in (λ f. no_type image f.ty) c.fields) (first_in (λ m. no_proto image m.proto) c.methods)))

-- only Object has no superclass; a superclass is no interface, and an interface's is Object
abbrev pub wrong_superclass : Image → ClassDef → Bool
wrong_superclass image c =
    elim c.parent [
      | None ↦ not (bytes_eq c.name object_name)
      | Some name ↦ names_interface image (Some name) || (has_flag c.flags flag.Interface && not (bytes_eq name object_name))
    ]

abbrev pub wrong_kind : Image → ClassDef → Bool
wrong_kind image c = wrong_superclass image c || list_any (λ name. not (names_interface image (Some name))) c.interfaces

abbrev pub final_at : Image → Option ℕ → Bool
final_at image None = false
final_at image (Some c) = has_flag (flags_of (slice_get image.classes c)) flag.Final

abbrev pub wrong_above : Image → LinkTest
wrong_above image i c =
    option_or (names_no_class image c)
    (option_or (when (wrong_kind image c) kind.SuperKind)
    (when (final_at image (option_and_then (class_named image) c.parent)) kind.FinalSuper))

-- ---- 4. a class depends on itself: it is one of those directly above it, or above one of these

abbrev pub on_cycle : Image → LinkTest
on_cycle image i c = when (any_of (λ d. implements image d i) (above image i)) kind.SuperCycle

-- ---- 5. members: first fields, over all classes

abbrev pub same_field : FieldDef → FieldDef → Bool
same_field f g = bytes_eq g.name f.name && ty_eq g.ty f.ty

-- an earlier field of the class has the name and the type
abbrev pub field_twice : List FieldDef → ℕ → Option LinkKind
field_twice fs k =
    elim (slice_get fs k) [ None ↦ None | Some f ↦ when (not (is_number k (position (same_field f) fs))) (kind.FieldTwice f.name) ]

abbrev pub has_field_twice : LinkTest
has_field_twice i c = first_below (field_twice c.fields) (length c.fields)

abbrev pub same_method : MethodDef → MethodDef → Bool
same_method m n = bytes_eq n.name m.name && same_proto n.proto m.proto

abbrev pub method_twice : List MethodDef → ℕ → Option LinkKind
method_twice ms k =
    elim (slice_get ms k) [ None ↦ None | Some m ↦ when (not (is_number k (position (same_method m) ms))) (kind.MethodTwice m.name) ]

-- an abstract or a native method has no body, and every other one has one
abbrev pub wrong_body : MethodDef → Bool
wrong_body m =
    elim (has_flag m.flags flag.Abstract || has_flag m.flags flag.Native) [ true ↦ is_some m.body | false ↦ is_none m.body ]

-- native methods are the boot classes' alone
abbrev pub wrong_native : ℕ → ℕ → MethodDef → Bool
wrong_native boot i m = has_flag m.flags flag.Native && not (nat_lt i boot)

-- an interface has no constructor (JLS 9.1)
abbrev pub wrong_constructor : ClassDef → MethodDef → Bool
wrong_constructor c m =
    has_flag c.flags flag.Interface && not (has_flag m.flags flag.Static) && bytes_eq m.name init_name

abbrev pub body_wrong : ℕ → ℕ → ClassDef → MethodDef → Option LinkKind
body_wrong boot i c m = when (wrong_body m || wrong_native boot i m || wrong_constructor c m) (kind.Body m.name)

-- an instance method that isn't private
abbrev pub is_open : MethodDef → Bool
is_open m = not (has_flag m.flags flag.Static) && not (has_flag m.flags flag.Private)

abbrev pub is_final : MethodDef → Bool
is_final m = is_open m && has_flag m.flags flag.Final

-- a class has such a method that is final
abbrev pub forbids : Image → MethodDef → ℕ → Bool
forbids image m d = list_any (λ n. is_final n && same_method m n) (methods_of (slice_get image.classes d))

-- a superclass has it
abbrev pub overrides_final : Image → ℕ → MethodDef → Option LinkKind
overrides_final image i m =
    when (is_open m && not (bytes_eq m.name init_name) && list_any (forbids image m) (drop 1 (supers image i)))
    (kind.FinalOverride m.name)

abbrev pub wrong_methods : Image → LinkTest
wrong_methods image i c =
    option_or (first_below (method_twice c.methods) (length c.methods))
    (option_or (first_in (body_wrong image.boot i c) c.methods) (first_in (overrides_final image i) c.methods))

-- ---- 6. pools

abbrev pub bodies : ClassDef → List Body
bodies c = filter_map (λ m. m.body) c.methods

abbrev pub no_class_in_field : Image → FieldRef → Option LinkKind
no_class_in_field image r = option_or (no_type image r.class) (no_type image r.ty)

abbrev pub no_class_in_method : Image → MethodRef → Option LinkKind
no_class_in_method image r = option_or (no_type image r.class) (no_proto image r.proto)

abbrev pub no_class_in_pools : Image → Body → Option LinkKind
no_class_in_pools image b =
    option_or (first_in (no_type image) b.types)
    (option_or (first_in (no_class_in_field image) b.fields) (first_in (no_class_in_method image) b.methods))

abbrev pub no_field : Image → FieldRef → Option LinkKind
no_field image r = when (is_none (field_named image r)) (kind.NoField (field_text r))

abbrev pub no_method : Image → MethodRef → Option LinkKind
no_method image r = when (is_none (method_named image r)) (kind.NoMethod (method_text r))

-- a private member of another class than the one that names it
abbrev pub private_field : Image → ℕ → FieldRef → Option LinkKind
private_field image i r =
    elim (field_named image r) [
      | None ↦ None
      | Some f ↦ when (has_flag f.def.flags flag.Private && not (nat_eq f.info.class.0 i)) (kind.PrivateAccess (field_text r))
    ]

abbrev pub private_method : Image → ℕ → MethodRef → Option LinkKind
private_method image i r =
    elim (method_named image r) [
      | None ↦ None
      | Some m ↦ when (has_flag m.def.flags flag.Private && not (nat_eq m.info.class.0 i)) (kind.PrivateAccess (method_text r))
    ]

abbrev pub private_in_pools : Image → ℕ → Body → Option LinkKind
private_in_pools image i b = option_or (first_in (private_field image i) b.fields) (first_in (private_method image i) b.methods)

abbrev pub wrong_pools : Image → LinkTest
wrong_pools image i c =
    option_or (first_in (no_class_in_pools image) (bodies c))
    (option_or (first_in (λ b. first_in (no_field image) b.fields) (bodies c))
    (option_or (first_in (λ b. first_in (no_method image) b.methods) (bodies c)) (first_in (private_in_pools image i) (bodies c))))
