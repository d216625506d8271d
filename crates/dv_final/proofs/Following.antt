-- The lines on words are those of the tagged machine's final text.
use Rattle.std.proofs.Common.{◌≡◌, ◌+◌, ◌++◌, ◌∙◌, ℕ, suc, Bool, true, false, List, [], ◌∷◌, All, Option, Some, None, append_assoc, refl, sym, ap, subst, arith}
use Rattle.std.specs.List.{AllZip}
use Rattle.std.specs.Prelude.{codes, decimal, if◌then◌else◌, slice_get}
use Rattle.std.proofs.lemmas.List.{append-nil}
use Rattle.std.proofs.lemmas.List.Elements.{All-head, All-tail}
use Rattle.dv_defs.specs.declared.machine.Blocked.{Blocked}
use Rattle.dv_defs.specs.declared.machine.End.{End}
use Rattle.dv_defs.specs.declared.machine.End.TheVariants as end
use Rattle.dv_defs.specs.declared.run.Ending.{Ending}
use Rattle.dv_defs.specs.declared.run.Ending.TheVariants as ending
use Rattle.dv_defs.specs.Images.{Image}
use Rattle.dv_machine.specs.Accepted.{Accepted}
use Rattle.dv_machine.specs.Final as machine
use Rattle.dv_machine.specs.Final.{closed, ends_well, newline, type_text}
use Rattle.dv_machine.specs.Running as tagged
use Rattle.dv_machine.specs.State.{Machine, Thread, type_of}
use Rattle.dv_machine.specs.WellTyped.{HeapFine, IsThrowable, ThreadFine, Typings, WellTyped}
use Rattle.law_machine.proofs.lemmas.Common.Lists.{all_from}
use Rattle.law_linked.specs.Laws.{HasMessage, LinkedMessagesAreStrings}
use Rattle.dv_words.specs.Standing.{HeapStands, ThreadStands}
use Rattle.dv_words.specs.State.{WordHeap, WordMachine, WordThread}
use Rattle.dv_words.specs.Running as words
use Rattle.law_words.proofs.Objects.{type_is}
use Rattle.law_engine.specs.RunningLaws.{RunningFollows, RunsAlike}
use Rattle.dv_final.specs.Final.{blocked_lines, ending_lines_by, ending_line, newline_after, uncaught}
use Rattle.dv_final.specs.Laws.{FinalLinesFollow}
use Rattle.dv_final.proofs.MessageCells.{message_is}
use Rattle.dv_machine.specs.Heap.{Heap}

-- ---- the printed bytes

closed_by : (bs : List ℕ) (b : Bool) → bs ++ (if b then [] else newline) ≡ if b then bs else bs ++ newline
closed_by bs true = append-nil bs
closed_by bs false = refl

closed_is : (bs : List ℕ) → bs ++ newline_after bs ≡ closed bs
closed_is bs = closed_by bs (ends_well bs)

-- ---- the threads that died

-- what a thread died of is an exception
abbrev DiesOf : Image → Heap → Thread → Type 0
DiesOf image h th = (o : ℕ) → th.end ≡ end.Died o → IsThrowable image h o

died_of : (image : Image) (T : Typings) (m : Machine) → WellTyped image T m → All (DiesOf image m.shared.heap) m.threads
died_of image T m typed = all_from (DiesOf image m.shared.heap) m.threads (λ t th there o died. (subst (ThreadFine image T m.shared.heap t th.levels) died (typed.each t th there)).1)

module _ (image : Image) (T : Typings) (acc : Accepted image T) (has : HasMessage image) (w : WordHeap) (h : Heap) (stands : HeapStands w h) (fine : HeapFine image h) where
  uncaught_is : (ws : List WordThread) (ts : List Thread) (k : ℕ) → AllZip ThreadStands ws ts → All (DiesOf image h) ts → uncaught image w ws k ≡ machine.uncaught image h ts k
  uncaught_is [] [] k all dies = refl
  uncaught_is [] (t ∷ ts) k all dies = absurd all
  uncaught_is (x ∷ ws) [] k all dies = absurd all
  uncaught_is (x ∷ ws) (t ∷ ts) k all dies = by t.end refl (uncaught_is ws ts (suc k) all.1 (All-tail (DiesOf image h) t ts dies))
    where
      by : (e : End) → t.end ≡ e → uncaught image w ws (suc k) ≡ machine.uncaught image h ts (suc k) → uncaught image w (x ∷ ws) k ≡ machine.uncaught image h (t ∷ ts) k
      by end.Living is rest = let same = all.0.end ∙ is in rw (same, is) rest
      by (end.Flying o) is rest = let same = all.0.end ∙ is in rw (same, is) rest
      by end.Returned is rest = let same = all.0.end ∙ is in rw (same, is) rest
      by (end.Died o) is rest =
          let same = all.0.end ∙ is in
          let type = type_is image w h o stands in
          let told = message_is image T acc has w h stands fine o (All-head (DiesOf image h) t ts dies o is) in
          rw (same, is, type, told) (ap (λ bs. codes "#uncaught " ++ decimal k ++ codes " " ++ type_text (type_of image h o) ++ machine.message image h o ++ newline ++ bs) rest)

-- ---- the ending

module _ (image : Image) (w : WordMachine) (m : Machine) (alike : RunsAlike image w m) where
  blocked_is : (ws : List WordThread) (ts : List Thread) (k : ℕ) → AllZip ThreadStands ws ts → ((i : ℕ) (th : Thread) → slice_get ts i ≡ Some th → words.blocked_of image w (k + i) ≡ tagged.blocked_thread image m (k + i) th)
      → blocked_lines image w ws k ≡ machine.blocked_lines image m ts k
  blocked_is [] [] k all held = refl
  blocked_is [] (t ∷ ts) k all held = absurd all
  blocked_is (x ∷ ws) [] k all held = absurd all
  blocked_is (x ∷ ws) (t ∷ ts) k all held =
      ap (λ (b : Option Blocked). machine.blocked_line image k b ++ blocked_lines image w ws (suc k)) first ∙
      ap (λ bs. machine.blocked_line image k (tagged.blocked_thread image m k t) ++ bs) (blocked_is ws ts (suc k) all.1 rest)
    where
      first : words.blocked_of image w k ≡ tagged.blocked_thread image m k t
      first = let same : k + 0 ≡ k = omega arith in subst (λ (n : ℕ). words.blocked_of image w n ≡ tagged.blocked_thread image m n t) same (held 0 t refl)

      rest : (i : ℕ) (th : Thread) → slice_get ts i ≡ Some th → words.blocked_of image w (suc k + i) ≡ tagged.blocked_thread image m (suc k + i) th
      rest i th there = let same : k + suc i ≡ suc k + i = omega arith in subst (λ (n : ℕ). words.blocked_of image w n ≡ tagged.blocked_thread image m n th) same (held (suc i) th there)

  ending_by : AllZip ThreadStands w.threads m.threads → (e : Option Ending) → ending_lines_by image w e ≡ machine.ending_lines image m e
  ending_by all None = refl
  ending_by all (Some ending.Done) = refl
  ending_by all (Some ending.NoRunnable) =
      ap (λ bs. bs ++ ending_line ending.NoRunnable) (blocked_is w.threads m.threads 0 all held) ∙
      sym (append_assoc (machine.blocked_lines image m m.threads 0) (codes "#end blocked") newline)
    where
      held : (i : ℕ) (th : Thread) → slice_get m.threads i ≡ Some th → words.blocked_of image w (0 + i) ≡ tagged.blocked_thread image m (0 + i) th
      held i th there = let same : i ≡ 0 + i = omega arith in subst (λ (n : ℕ). words.blocked_of image w n ≡ tagged.blocked_thread image m n th) same (alike.blocked i th there)
  ending_by all (Some ending.Steps) = refl
  ending_by all (Some ending.Output) = refl

-- ---- all of it

pub follow : RunningFollows → LinkedMessagesAreStrings → FinalLinesFollow
follow runs messages image T w m is accepted simulated =
    let alike = runs image T w m accepted simulated in
    let stands = simulated.stands in
    let typed = simulated.typed in
    let died = uncaught_is image T accepted (messages image is) w.shared.heap m.shared.heap stands.shared.heap typed.heap w.threads m.threads 0 stands.threads (died_of image T m typed) in
    let ended = ap (ending_lines_by image w) alike.ending ∙ ending_by image w m alike stands.threads (tagged.ending_of image m) in
    let printed = m.shared.output in
    let lacking = newline_after w.shared.output in
    let dead = uncaught image w.shared.heap w.threads 0 in
    let last = ending_lines_by image w (words.ending_of image w) in
    let line : printed ++ lacking ≡ closed printed = ap (λ bs. printed ++ newline_after bs) stands.shared.output ∙ closed_is printed in
    sym (append_assoc printed (lacking ++ dead) last) ∙ ap (λ bs. bs ++ last) (sym (append_assoc printed lacking dead)) ∙
    ap (λ bs. bs ++ dead ++ last) line ∙ ap (λ bs. closed printed ++ bs ++ last) died ∙
    ap (λ bs. closed printed ++ machine.uncaught image m.shared.heap m.threads 0 ++ bs) ended
