-- What an effect does to a state, and which step an instruction is.
use Rattle.std.specs.Prelude.{◌≡◌, ◌<◌, ◌^◌, ℕ, Bool, true, false, List, IfSome, map, option_map}
use Rattle.dv_defs.specs.Images.{Image}
use Rattle.dv_defs.specs.Pools.{Method, class_type, is_constructor}
use Rattle.dv_defs.specs.Op.{Op, Code, Filled, Invoke}
use Rattle.dv_typing.specs.declared.typing.RegType.{RegType}
use Rattle.dv_typing.specs.declared.typing.RegType.TheVariants as ty
use Rattle.dv_typing.specs.declared.typing.PendingType.{PendingType}
use Rattle.dv_typing.specs.declared.typing.PendingType.TheVariants as pend
use Rattle.dv_typing.specs.declared.typing.RegState.{RegState}
use Rattle.dv_typing.specs.RegTypes.{Types, type_at}
use Rattle.dv_typing.specs.Demands.{made_by}
use Rattle.dv_typing.specs.Transfer as transfer
use Rattle.dv_typing.specs.Transfer.{write_type, write_long, copied_int, copied_object, result_int, result_ref, after_result_long, caught_type, object_element, replaced, after_constructor, first_of, out}
use Rattle.dv_bases.specs.Bases.{Names, word_type, IsWord}
use Rattle.dv_bases.specs.States.{IsPending, pending_of}
use Rattle.dv_effects.specs.declared.effects.Effect.{Effect}
use Rattle.dv_effects.specs.declared.effects.Effect.TheVariants as effect
use Rattle.dv_effects.specs.declared.effects.Step.{Step}

-- the registers after an effect
abbrev pub registers_after : Names → Method → Effect → RegState → Types
registers_after names m effect.Nothing s = s.regs
registers_after names m (effect.Put k word) s = write_type s.regs k (word_type names word)
registers_after names m (effect.PutLong k) s = write_long s.regs k
registers_after names m (effect.CopyInt k from) s = write_type s.regs k (copied_int (type_at s.regs from))
registers_after names m (effect.CopyObject k from) s = write_type s.regs k (copied_object (type_at s.regs from))
registers_after names m (effect.ResultInt k) s = write_type s.regs k (result_int s.result)
registers_after names m (effect.ResultLong k) s = after_result_long s.regs k s.result
registers_after names m (effect.ResultObject k) s = write_type s.regs k (result_ref s.result)
registers_after names m (effect.Caught k) s = write_type s.regs k (caught_type s.caught)
registers_after names m (effect.Element k array) s = write_type s.regs k (object_element (type_at s.regs array))
registers_after names m (effect.New k at) s = write_type (map (replaced at ty.Conflict) s.regs) k (ty.Uninit at)
registers_after names m (effect.Construct k) s = (after_constructor names.image m s (type_at s.regs k)).regs

-- `this` is pending until a constructor is called on it
abbrev pub this_with : RegType → Bool → Bool
this_with ty.UninitThis pending = false
this_with t pending = pending

-- whether `this` is pending after an effect
abbrev pub this_after : Effect → RegState → Bool
this_after (effect.Construct k) s = this_with (type_at s.regs k) s.this_pending
this_after e s = s.this_pending

-- the pending result after an operation
abbrev pub pending_left : Op → PendingType
pending_left (Filled rs t) = pend.One (ty.Class t)
pending_left (Invoke c ks g) = transfer.pending_of g.def.proto.ret
pending_left op = pend.None

-- a constructor initialises the object of its first register, and another call changes no register
abbrev pub call_effect : List ℕ → Method → Effect
call_effect ks g = elim (is_constructor g) [ true ↦ effect.Construct (first_of ks) | false ↦ effect.Nothing ]

-- the words in an effect are words
abbrev pub HasWords : Names → Effect → Type 0
HasWords names (effect.Put k word) = IsWord names word
HasWords names (effect.New k at) = at < 2 ^ 29
HasWords names e = Unit {0}

-- a word has room for the address in an effect
abbrev pub HasRoomFor : Effect → Type 0
HasRoomFor (effect.New k at) = at < 2 ^ 29
HasRoomFor e = Unit {0}

-- the type of a class's objects
abbrev pub object_type : Image → ℕ → RegType
object_type image c = ty.Class (class_type image c)

-- the step of the instruction at an address: it makes of each state what the instruction makes of it, and tells the class of a new-instance
pub record IsStep (names : Names) (code : Code) (at : ℕ) (op : Op) (step : Step) : Type 0 where
  pub registers : (s : RegState) → registers_after names code.method step.effect s ≡ (out names.image code.method at op s).regs
  pub pending : (s : RegState) → pending_of names step.pending ≡ (out names.image code.method at op s).result
  pub this : (s : RegState) → this_after step.effect s ≡ (out names.image code.method at op s).this_pending
  pub made : option_map (word_type names) step.makes ≡ option_map (object_type names.image) (made_by op)
  pub effect_words : HasWords names step.effect
  pub pending_word : IsPending names step.pending
  pub made_word : IfSome step.makes (IsWord names)
