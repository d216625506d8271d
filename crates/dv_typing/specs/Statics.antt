-- The static rules of an instruction, and the operation at an address.
use Rattle.std.specs.Prelude.{ℕ, suc, ◌+◌, Bool, true, false, ◌&&◌, ◌||◌, not, List, [], ◌∷◌, ◌++◌, length, drop, ℤ, pos, negsuc, Option, Some, None, Ok, Err, slice_get, nat_eq, nat_lt, bytes_eq, option_map, option_and_then}
use Rattle.std.specs.List.{list_all}
use Rattle.dv_defs.specs.declared.names.Base.TheVariants as base
use Rattle.dv_defs.specs.declared.names.Ty.{Ty}
use Rattle.dv_defs.specs.declared.code.Insn.{Insn}
use Rattle.dv_defs.specs.declared.faults.Rule.{Rule}
use Rattle.dv_defs.specs.declared.faults.Rule.TheVariants as rule
use Rattle.dv_defs.specs.Images.{Image}
use Rattle.dv_defs.specs.Parts.{Width, Suffix, Call, Bin, is_shift}
use Rattle.dv_defs.specs.Families.{Family, family_at}
use Rattle.dv_defs.specs.Names.{clinit_name}
use Rattle.dv_defs.specs.Types.{is_array, is_reference, is_base, component, class_in, words_of_all}
use Rattle.dv_defs.specs.Pools.{Method, Field, class_named, is_static, is_static_field, is_private, is_constructor, is_interface, is_abstract_class, supers}
use Rattle.dv_defs.specs.Order.{has_number, is_interface_type}
use Rattle.dv_defs.specs.Tiling.{Tile, tile_at, insn_in, begins_insn}
use Rattle.dv_defs.specs.Op.{Op, Goto, IfBoth, IfZero, Switch, FieldGet, FieldPut, StaticGet, StaticPut, Invoke, New, NewArray, Filled, Cast, InstanceOf, Case, Code, Resolved, code_at, reg, named_registers, op_of}

-- a rule, where its test fails
abbrev pub unless : Bool → Rule → List Rule
unless true broken = []
unless false broken = broken ∷ []

-- ---- registers: S11

-- which of an instruction's registers are the first of a pair, by its family
abbrev pub wide_binary : Bin → Insn → List ℕ
wide_binary o i = elim (is_shift o) [ true ↦ reg i 0 ∷ reg i 1 ∷ [] | false ↦ reg i 0 ∷ reg i 1 ∷ reg i 2 ∷ [] ]

abbrev pub wide_two : Bin → Insn → List ℕ
wide_two o i = elim (is_shift o) [ true ↦ reg i 0 ∷ [] | false ↦ reg i 0 ∷ reg i 1 ∷ [] ]

abbrev pub wide_registers : Family → Insn → List ℕ
wide_registers (Family.Move Width.Wide) i = reg i 0 ∷ reg i 1 ∷ []
wide_registers (Family.MoveResult Width.Wide) i = reg i 0 ∷ []
wide_registers (Family.Return Width.Wide) i = reg i 0 ∷ []
wide_registers Family.ConstWide i = reg i 0 ∷ []
wide_registers (Family.LongUnary o) i = reg i 0 ∷ reg i 1 ∷ []
wide_registers Family.IntToLong i = reg i 0 ∷ []
wide_registers Family.LongToInt i = reg i 1 ∷ []
wide_registers Family.CmpLong i = reg i 1 ∷ reg i 2 ∷ []
wide_registers (Family.LongBinary o) i = wide_binary o i
wide_registers (Family.LongTwo o) i = wide_two o i
wide_registers (Family.ArrayGet Suffix.Long) i = reg i 0 ∷ []
wide_registers (Family.ArrayPut Suffix.Long) i = reg i 0 ∷ []
wide_registers (Family.FieldGet Suffix.Long) i = reg i 0 ∷ []
wide_registers (Family.FieldPut Suffix.Long) i = reg i 0 ∷ []
wide_registers (Family.StaticGet Suffix.Long) i = reg i 0 ∷ []
wide_registers (Family.StaticPut Suffix.Long) i = reg i 0 ∷ []
wide_registers f i = []

abbrev pub wide_in : Insn → List ℕ
wide_in i = elim (family_at i.op) [ None ↦ [] | Some f ↦ wide_registers f i ]

-- each register, and the second of each pair, is below the number of registers
abbrev pub registers_below : ℕ → Insn → Bool
registers_below n i = list_all (λ r. nat_lt r n) (named_registers i.regs) && list_all (λ r. nat_lt (suc r) n) (wide_in i)

-- ---- branches: S4, S5, S8

abbrev pub is_branch : Option Family → Bool
is_branch (Some Family.Goto) = true
is_branch (Some (Family.If t)) = true
is_branch (Some (Family.IfZero t)) = true
is_branch f = false

abbrev pub is_zero_offset : ℤ → Bool
is_zero_offset (pos n) = nat_eq n 0
is_zero_offset (negsuc n) = false

-- S5: only goto/32 may stay where it is
abbrev pub moves_on : Insn → Bool
moves_on i = not (is_branch (family_at i.op)) || nat_eq i.op 0x2a || not (is_zero_offset i.off)

abbrev pub leads_to_insn : Code → ℕ → Bool
leads_to_insn code to = begins_insn code.tiles to

abbrev pub all_lead : Code → List Case → Bool
all_lead code cases = list_all (λ c. leads_to_insn code c.to) cases

-- ---- members: S13 to S15

-- the type of a field, or of an array's elements, that a suffix is for
abbrev pub is_of_suffix : Suffix → Ty → Bool
is_of_suffix Suffix.Int t = is_base base.I t
is_of_suffix Suffix.Long t = is_base base.J t
is_of_suffix Suffix.Object t = is_reference t
is_of_suffix Suffix.Boolean t = is_base base.Z t
is_of_suffix Suffix.Byte t = is_base base.B t
is_of_suffix Suffix.Char t = is_base base.C t
is_of_suffix Suffix.Short t = is_base base.S t

-- S13; an instance field that an interface declares has no place in an object
abbrev pub fits_instance_field : Image → Suffix → Field → Bool
fits_instance_field image s x =
    not (is_static_field x) && is_of_suffix s x.def.ty && not (is_interface image x.info.class.0)

abbrev pub fits_static_field : Suffix → Field → Bool
fits_static_field s x = is_static_field x && is_of_suffix s x.def.ty

abbrev pub is_proper_super : Image → ℕ → ℕ → Bool
is_proper_super image c d = has_number d (drop 1 (supers image c))

-- an instance method that is neither private nor a constructor
abbrev pub is_virtual : Method → Bool
is_virtual m = not (is_static m) && not (is_constructor m) && not (is_private m)

-- the type by which an instruction names the method that it calls
abbrev pub referred : Code → Insn → Option Ty
referred code i = option_map (λ r. r.class) (slice_get code.body.methods i.index)

-- it isn't an interface
abbrev pub names_class : Image → Option Ty → Bool
names_class image None = false
names_class image (Some t) = not (is_interface_type image t)

abbrev pub is_some_super : Image → ℕ → Option ℕ → Bool
is_some_super image c None = false
is_some_super image c (Some d) = is_proper_super image c d

-- it is a proper superclass of a class
abbrev pub names_super : Image → ℕ → Option Ty → Bool
names_super image c None = false
names_super image c (Some t) = not (is_array t) && is_some_super image c (option_and_then (class_named image) (class_in t.base))

-- S14, by the calling method and the type that the invoke names
abbrev pub fits_call : Image → Method → Option Ty → Call → Method → Bool
fits_call image own t Call.Static m = is_static m && not (bytes_eq m.def.name clinit_name)
fits_call image own t Call.Direct m = not (is_static m) && (is_constructor m || is_private m)
fits_call image own t Call.Virtual m = is_virtual m && names_class image t
fits_call image own t Call.Super m = is_virtual m && names_super image own.info.class.0 t
fits_call image own t Call.Interface m = not (is_static m) && not (is_private m) && is_interface image m.info.class.0

abbrev pub receiver_words : Method → ℕ
receiver_words m = elim (is_static m) [ true ↦ 0 | false ↦ 1 ]

-- how many argument words a method takes
abbrev pub arg_words : Method → ℕ
arg_words m = receiver_words m + words_of_all m.def.proto.params

-- S16: an array of int or of references
abbrev pub is_filled_type : Ty → Bool
is_filled_type t = is_array t && (is_base base.I (component t) || is_reference (component t))

-- ---- an instruction's rules

-- what an operation breaks, beside its registers; of an invoke the type that it names is given
abbrev pub op_rules : Image → Code → Option Ty → Op → List Rule
op_rules image code r (Goto to) = unless (leads_to_insn code to) (rule.S 4)
op_rules image code r (IfBoth t a b to) = unless (leads_to_insn code to) (rule.S 4)
op_rules image code r (IfZero t a to) = unless (leads_to_insn code to) (rule.S 4)
op_rules image code r (Switch a cases) = unless (all_lead code cases) (rule.S 8)
op_rules image code r (FieldGet s a b x) = unless (fits_instance_field image s x) (rule.S 13)
op_rules image code r (FieldPut s a b x) = unless (fits_instance_field image s x) (rule.S 13)
op_rules image code r (StaticGet s a x) = unless (fits_static_field s x) (rule.S 13)
op_rules image code r (StaticPut s a x) = unless (fits_static_field s x) (rule.S 13)
op_rules image code r (Invoke c args m) =
    unless (fits_call image code.method r c m) (rule.S 14) ++ unless (nat_eq (length args) (arg_words m)) (rule.S 15)
op_rules image code r (New a c) = unless (not (is_interface image c) && not (is_abstract_class image c)) (rule.S 16)
op_rules image code r (NewArray a b t) = unless (is_array t) (rule.S 16)
op_rules image code r (Filled regs t) = unless (is_filled_type t) (rule.S 16)
op_rules image code r (Cast a t) = unless (is_reference t) (rule.S 16)
op_rules image code r (InstanceOf a b t) = unless (is_reference t) (rule.S 16)
op_rules image code r op = []

abbrev pub resolved_rules : Image → Code → Option Ty → Resolved → List Rule
resolved_rules image code r (Err broken) = broken ∷ []
resolved_rules image code r (Ok op) = op_rules image code r op

-- the static rules that an instruction at an address breaks
abbrev pub insn_rules : Image → Code → ℕ → Insn → List Rule
insn_rules image code at i =
    unless (moves_on i) (rule.S 5) ++ unless (registers_below code.body.registers i) (rule.S 11) ++
    resolved_rules image code (referred code i) (op_of image code at i)

-- ---- what stands at an address

-- an operation with the address after it
pub record At : Type 0 where
  pub op : Op
  pub next : ℕ

abbrev pub at_of : ℕ → Resolved → Option At
at_of next (Err broken) = None
at_of next (Ok op) = Some (record { op = op; next = next })

abbrev pub sound_at : Image → Code → ℕ → ℕ → Insn → Option At
sound_at image code at next i = elim (insn_rules image code at i) [ [] ↦ at_of next (op_of image code at i) | r ∷ rs ↦ None ]

abbrev pub at_tile : Image → Code → Option Tile → Option At
at_tile image code None = None
at_tile image code (Some t) = elim (insn_in t.item) [ None ↦ None | Some i ↦ sound_at image code t.at (t.at + t.size) i ]

abbrev pub fetch_in : Image → ℕ → Option Code → Option At
fetch_in image at None = None
fetch_in image at (Some code) = at_tile image code (tile_at code.tiles at)

-- the operation at an address of a method: there is none where no instruction begins, or where it breaks a static rule
unfoldable pub fetch : Image → ℕ → ℕ → Option At
fetch image n at = fetch_in image at (code_at image n)
