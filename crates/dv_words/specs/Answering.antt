-- What calls see of a thread that steps at an instruction, and what they leave, by their answers.
use Rattle.std.specs.Prelude.{◌≡◌, ℕ, ◌∷◌, drop, Option, Some, None, Result, Ok, Err}
use Rattle.dv_defs.specs.declared.code.Insn.{Insn}
use Rattle.dv_defs.specs.declared.run.Next.{Next}
use Rattle.dv_defs.specs.declared.run.Next.TheVariants as next
use Rattle.dv_defs.specs.Decoding.{insn_here}
use Rattle.dv_defs.specs.Op.{Code, Op, code_at}
use Rattle.dv_defs.specs.Pools.{method_at}
use Rattle.dv_typing.specs.Statics.{fetch}
use Rattle.dv_machine.specs.State.{Did, Go, NoOutput, NoRoom, NoWords, Throws, ThrowsRef}
use Rattle.dv_words.specs.declared.state.Level.TheVariants as level
use Rattle.dv_words.specs.Stacks.{with_levels}
use Rattle.dv_words.specs.State.{WordShared, WordStack}
use Rattle.dv_words.specs.Steps.{At, Left}

-- this is the stack of the thread that steps
pub record IsStackOf (stack : WordStack) (h : At) : Type 0 where
  pub levels : stack.levels ≡ level.Code h.frame ∷ h.rest
  pub most_levels : stack.most_levels ≡ h.limits.levels
  pub most_words : stack.most_words ≡ h.limits.words

-- the instruction is spelled where the frame goes on, and means this operation
pub record IsAtInsn (h : At) (insn : Insn) (op : Op) : Type 0 where
  pub own : method_at h.image h.frame.method.0 ≡ Some h.own
  pub code : Code
  pub has_code : code_at h.image h.frame.method.0 ≡ Some code
  pub size : ℕ
  pub spelled : insn_here (drop h.frame.at code.body.units) ≡ Some (record { insn = insn; size = size })
  pub fetched : fetch h.image h.frame.method.0 h.frame.at ≡ Some (record { op = op; next = h.next })

-- an answer is the outcome; what goes on leaves this, and otherwise all stays; want of memory is free
abbrev pub Leads : {E : Type 0} → Result Next E → Did Left → (Left → Type 0) → Type 0 → Type 0
Leads (Ok next.On) (Go l) leaves stays = leaves l
Leads (Ok (next.Throw n)) (Throws m) leaves stays = (n ≡ m) × stays
Leads (Ok (next.ThrowRef o)) (ThrowsRef p) leaves stays = (o ≡ p) × stays
Leads (Ok next.NoWords) NoWords leaves stays = stays
Leads (Ok next.NoRoom) NoRoom leaves stays = stays
Leads (Ok next.NoOutput) NoOutput leaves stays = stays
Leads (Err memory) d leaves stays = stays
Leads answer d leaves stays = ⊥

-- the stack has the levels that are left, all share this, and no thread was started
pub record LeavesStack (after : WordShared) (old new : WordStack) (l : Left) : Type 0 where
  pub levels : new ≡ with_levels old l.levels
  pub shared : l.shared ≡ after
  pub started : l.started ≡ None
