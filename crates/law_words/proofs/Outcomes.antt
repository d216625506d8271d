-- What a step on words leaves stands for what the tagged one leaves: the parts that all operations share.
use Rattle.std.proofs.Common.{◌≡◌, ℕ, zero, suc, ◌+◌, Bool, true, false, ◌&&◌, None, List, [], ◌∷◌, length, refl, sym, ap, ◌∙◌, subst}
use Rattle.std.specs.Prelude.{if◌then◌else◌, nat_le}
use Rattle.dv_machine.specs.Frame as tagged_frame
use Rattle.dv_machine.specs.Level as tagged_level
use Rattle.dv_defs.specs.declared.run.Limits.{Limits}
use Rattle.dv_defs.specs.declared.run.Named.{Named}
use Rattle.dv_defs.specs.declared.run.Named.TheVariants as named
use Rattle.dv_machine.specs.Classes.{Classes}
use Rattle.dv_machine.specs.Heap.{Heap}
use Rattle.dv_machine.specs.Monitors.{Monitors}
use Rattle.dv_machine.specs.Mem.{on_object}
use Rattle.dv_machine.specs.State as machine
use Rattle.dv_machine.specs.State.{Did, Go, Here, Left, NoRoom, Shared, Throws, where_true}
use Rattle.dv_words.specs.declared.state.Frame.{Frame}
use Rattle.dv_words.specs.declared.state.Level.{Level}
use Rattle.dv_words.specs.declared.state.Level.TheVariants as level
use Rattle.dv_words.specs.Stacks.{gone, size_of, words_in}
use Rattle.dv_words.specs.Standing.{FrameStands, HeapStands, LevelStands, LevelsStand, SharedStands}
use Rattle.dv_words.specs.State.{WordHeap, WordShared}
use Rattle.law_words.specs.Laws.{IsBounded}
use Rattle.law_words.specs.StepLaws.{AtStands, OutcomeStands}
use Rattle.dv_words.specs.Steps as over
use Rattle.law_words.proofs.Objects.{same_length}
use Rattle.law_words.proofs.Registers.{stand_gone}

-- ---- sizes of stacks

size_is : (s : Level) (l : tagged_level.Level) → LevelStands s l → size_of s ≡ machine.regs_in l
size_is (level.Code s) (tagged_level.Code f) stands = same_length s.regs f.regs stands.regs
size_is (level.Code s) (tagged_level.Init c r) stands = absurd stands
size_is (level.Init c r) (tagged_level.Code f) stands = absurd stands
size_is (level.Init c r) (tagged_level.Init d q) stands = refl

words_are : (ss : List Level) (ls : List tagged_level.Level) → LevelsStand ss ls → words_in ss ≡ machine.words_in ls
words_are [] [] stand = refl
words_are [] (l ∷ ls) stand = absurd stand
words_are (s ∷ ss) [] stand = absurd stand
words_are (s ∷ ss) (l ∷ ls) stand = ap (λ (n : ℕ). n + words_in ss) (size_is s l stand.0) ∙ ap (λ (n : ℕ). machine.regs_in l + n) (words_are ss ls stand.1)

count_is : (ss : List Level) (ls : List tagged_level.Level) → LevelsStand ss ls → length ss ≡ length ls
count_is [] [] stand = refl
count_is [] (l ∷ ls) stand = absurd stand
count_is (s ∷ ss) [] stand = absurd stand
count_is (s ∷ ss) (l ∷ ls) stand = ap suc (count_is ss ls stand.1)

-- ---- what is shared

pub with_heaps : (w : WordShared) (s : Shared) (x : WordHeap) (y : Heap) → SharedStands w s → HeapStands x y → SharedStands (over.with_heap w x) (machine.with_heap s y)
with_heaps w s x y stands heap = record { heap = heap; classes = stands.classes; monitors = stands.monitors; output = stands.output }

pub with_same_monitors : (w : WordShared) (s : Shared) (a b : Monitors) → SharedStands w s → a ≡ b → SharedStands (over.with_monitors w a) (machine.with_monitors s b)
with_same_monitors w s a b stands same = record { heap = stands.heap; classes = stands.classes; monitors = same; output = stands.output }

pub with_same_classes : (w : WordShared) (s : Shared) (a b : Classes) → SharedStands w s → a ≡ b → SharedStands (over.with_classes w a) (machine.with_classes s b)
with_same_classes w s a b stands same = record { heap = stands.heap; classes = same; monitors = stands.monitors; output = stands.output }

pub with_same_output : (w : WordShared) (s : Shared) (a b : List ℕ) → SharedStands w s → a ≡ b → SharedStands (over.with_output w a) (machine.with_output s b)
with_same_output w s a b stands same = record { heap = stands.heap; classes = stands.classes; monitors = stands.monitors; output = same }

-- ---- outcomes

pub left_stands : (x : WordShared) (y : Shared) (ss : List Level) (ls : List tagged_level.Level) → SharedStands x y → LevelsStand ss ls → IsBounded y.heap → OutcomeStands (over.left x ss) (Go (record { levels = ls; shared = y; started = None }))
left_stands x y ss ls shared levels bounded = record { levels = levels; shared = shared; started = tt; bounded = bounded }

pub where_alike : (a b : Bool) (n : Named) (d : Did over.Left) (e : Did Left) → a ≡ b → OutcomeStands d e → OutcomeStands (where_true a n d) (where_true b n e)
where_alike true true n d e same s = s
where_alike false false n d e same s = refl
where_alike true false n d e same s = absurd (cc)
where_alike false true n d e same s = absurd (cc)

pub if_alike : (a b : Bool) (d f : Did over.Left) (e g : Did Left) → a ≡ b → OutcomeStands d e → OutcomeStands f g → OutcomeStands (if a then d else f) (if b then e else g)
if_alike true true d f e g same s t = s
if_alike false false d f e g same s t = t
if_alike true false d f e g same s t = absurd (cc)
if_alike false true d f e g same s t = absurd (cc)

pub on_object_alike : (o p : ℕ) (d : ℕ → Did over.Left) (e : ℕ → Did Left) → o ≡ p → ((q : ℕ) → p ≡ suc q → OutcomeStands (d (suc q)) (e (suc q))) → OutcomeStands (on_object d o) (on_object e p)
on_object_alike o zero d e same s = subst (λ (n : ℕ). OutcomeStands (on_object d n) (Throws named.NullPointer)) (sym same) refl
on_object_alike o (suc p) d e same s = subst (λ (n : ℕ). OutcomeStands (on_object d n) (e (suc p))) (sym same) (s p refl)

module _ (w : over.At) (h : Here) (stands : AtStands w h) where
  pub onward_stands : (x : WordShared) (y : Shared) (s : Frame) (f : tagged_frame.Frame) → SharedStands x y → FrameStands s f → IsBounded y.heap → OutcomeStands (over.onward w x s) (machine.onward h y f)
  onward_stands x y s f shared frame bounded = left_stands x y (level.Code s ∷ w.rest) (tagged_level.Code f ∷ h.rest) shared (frame, stands.rest) bounded

  pub gone_stands : FrameStands (gone w.frame w.next) (machine.gone h.frame h.next h.frame.regs)
  gone_stands = subst (λ (n : ℕ). FrameStands (gone w.frame n) (machine.gone h.frame h.next h.frame.regs)) (sym stands.next) (stand_gone w.frame h.frame h.next stands.frame)

  pub goes_on : (x : WordShared) (y : Shared) → SharedStands x y → IsBounded y.heap → OutcomeStands (over.goes w x) (machine.onward h y (machine.gone h.frame h.next h.frame.regs))
  goes_on x y shared bounded = onward_stands x y (gone w.frame w.next) (machine.gone h.frame h.next h.frame.regs) shared gone_stands bounded

  pub stays_on : OutcomeStands (over.stays w) (machine.onward h h.shared h.frame)
  stays_on = onward_stands w.shared h.shared w.frame h.frame stands.shared stands.frame stands.bounded

  room_alike : (a : Limits) (s : Level) (l : tagged_level.Level) (ss : List Level) (ls : List tagged_level.Level) → a ≡ h.limits → LevelStands s l → LevelsStand ss ls →
      (nat_le (suc (length ss)) a.levels && nat_le (size_of s + words_in ss) a.words) ≡ (nat_le (suc (length ls)) h.limits.levels && nat_le (machine.regs_in l + machine.words_in ls) h.limits.words)
  room_alike a s l ss ls same one all =
      let n = count_is ss ls all in
      let m = size_is s l one in
      let k = words_are ss ls all in
      ap (λ (b : Limits). nat_le (suc (length ss)) b.levels && nat_le (size_of s + words_in ss) b.words) same
      ∙ ap (λ (c : ℕ). nat_le (suc c) h.limits.levels && nat_le (size_of s + words_in ss) h.limits.words) n
      ∙ ap (λ (c : ℕ). nat_le (suc (length ls)) h.limits.levels && nat_le (c + words_in ss) h.limits.words) m
      ∙ ap (λ (c : ℕ). nat_le (suc (length ls)) h.limits.levels && nat_le (machine.regs_in l + c) h.limits.words) k

  pub pushed_stands : (x : WordShared) (y : Shared) (s : Level) (l : tagged_level.Level) (ss : List Level) (ls : List tagged_level.Level) → SharedStands x y → LevelStands s l → LevelsStand ss ls → IsBounded y.heap → OutcomeStands (over.pushed w x s ss) (machine.pushed h y l ls)
  pushed_stands x y s l ss ls shared one all bounded =
      if_alike _ _ (over.left x (s ∷ ss)) NoRoom (machine.left h y (l ∷ ls)) NoRoom (room_alike w.limits s l ss ls stands.limits one all)
      (left_stands x y (s ∷ ss) (l ∷ ls) shared (one, all) bounded) tt
