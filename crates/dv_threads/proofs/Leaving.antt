-- What steps leave of threads.
use Rattle.std.proofs.Common.{◌≡◌, ℕ, zero, suc, ◌<◌, ◌++◌, List, [], ◌∷◌, length, map, Option, Some, Result, refl, sym, ap, ◌∙◌, subst, arith}
use Rattle.std.specs.Prelude.{slice_get, slice_set}
use Rattle.std.specs.Vec.{with_items}
use Rattle.std.proofs.lemmas.List.{with_items_is}
use Rattle.std.specs.declared.alloc.AllocError.{AllocError}
use Rattle.dv_defs.specs.declared.machine.End.{End}
use Rattle.dv_defs.specs.declared.machine.End.TheVariants as end
use Rattle.dv_machine.specs.Monitors.{Monitors}
use Rattle.dv_words.specs.declared.state.Frame.{Frame}
use Rattle.dv_words.specs.declared.state.Level.{Level}
use Rattle.dv_words.specs.declared.state.Level.TheVariants as level
use Rattle.dv_words.specs.Stacks.{changed, gone, on_top}
use Rattle.dv_words.specs.State.{WordStack, WordThread}
use Rattle.dv_defs.specs.declared.run.Next.{Next}
use Rattle.dv_machine.specs.State.{Did}
use Rattle.dv_words.specs.Answering.{Leads}
use Rattle.dv_words.specs.Steps.{At, Left, leaves, with_monitors}
use Rattle.dv_threads.specs.declared.threads.Threads.{Threads}
use Rattle.dv_threads.specs.Kept.{AreAsBefore, IsThreadOf, LeavesThreads, bounds, threads_of, zipped}
use Rattle.dv_threads.specs.Stacks.{changed_at}

-- ---- lists

pub no_more : {X : Type 0} (xs : List X) → xs ++ [] ≡ xs
no_more [] = refl
no_more (x ∷ xs) = ap (λ ys. x ∷ ys) (no_more xs)

pub got_within : {X : Type 0} (xs : List X) (t : ℕ) (x : X) → slice_get xs t ≡ Some x → t < length xs
got_within [] t x has = absurd (cc)
got_within (y ∷ xs) zero x has = omega arith
got_within (y ∷ xs) (suc t) x has = let less = got_within xs t x has in omega (arith, less)

same_levels : (own : WordThread) (s : WordStack) (e : End) (o : ℕ) (g : Frame → Frame) (x : WordStack) → (let q : Option WordThread = Some (record { levels = x.levels; end = e; object = o }) in q) ≡ Some own → (let q : Option WordStack = Some x in q) ≡ Some s
    → (let r : WordThread = record { levels = on_top g x.levels; end = e; object = o } in r) ≡ record { levels = on_top g s.levels; end = own.end; object = own.object }
same_levels own s e o g x is has =
    let kept : record { levels = x.levels; end = e; object = o } ≡ own = cc in
    let stack : x ≡ s = cc in
    λ j. record { levels = on_top g ((stack j).levels); end = (kept j).end; object = (kept j).object }

pub zip_changed : (g : Frame → Frame) (ss : List WordStack) (es : List End) (os : List ℕ) (t : ℕ) (s : WordStack) (own : WordThread) → slice_get ss t ≡ Some s → slice_get (zipped ss es os) t ≡ Some own
    → zipped (changed_at ss t g) es os ≡ slice_set (zipped ss es os) t (record { levels = on_top g s.levels; end = own.end; object = own.object })
zip_changed g [] es os t s own has is = absurd (cc)
zip_changed g (x ∷ ss) [] os t s own has is = absurd (cc)
zip_changed g (x ∷ ss) (e ∷ es) [] t s own has is = absurd (cc)
zip_changed g (x ∷ ss) (e ∷ es) (o ∷ os) zero s own has is = ap (λ r. r ∷ zipped ss es os) (same_levels own s e o g x is has)
zip_changed g (x ∷ ss) (e ∷ es) (o ∷ os) (suc t) s own has is = ap (λ rs. record { levels = x.levels; end = e; object = o } ∷ rs) (zip_changed g ss es os t s own has is)

pub changed_length : (g : Frame → Frame) (ss : List WordStack) (t : ℕ) → length (changed_at ss t g) ≡ length ss
changed_length g [] t = refl
changed_length g (x ∷ ss) zero = refl
changed_length g (x ∷ ss) (suc t) = ap suc (changed_length g ss t)

pub changed_bounds : (g : Frame → Frame) (ss : List WordStack) (t : ℕ) → map bounds (changed_at ss t g) ≡ map bounds ss
changed_bounds g [] t = refl
changed_bounds g (x ∷ ss) zero = refl
changed_bounds g (x ∷ ss) (suc t) = ap (λ bs. bounds x ∷ bs) (changed_bounds g ss t)

changed_none : (ss : List WordStack) (t : ℕ) → changed_at ss t (λ f. f) ≡ ss
changed_none [] t = refl
changed_none (x ∷ ss) zero = ap (λ y. y ∷ ss) (same x)
  where
    same_in : (ls : List Level) → on_top (λ f. f) ls ≡ ls
    same_in [] = refl
    same_in (level.Code f ∷ ls) = refl
    same_in (level.Init c r ∷ ls) = refl

    same : (s : WordStack) → changed (λ f. f) s ≡ s
    same s = ap (λ ls. record { levels = ls; most_levels = s.most_levels; most_words = s.most_words }) (same_in s.levels)
changed_none (x ∷ ss) (suc t) = ap (λ ys. x ∷ ys) (changed_none ss t)

one_more : {X : Type 0} (xs : List X) (x : X) → length (xs ++ x ∷ []) ≡ suc (length xs)
one_more [] x = refl
one_more (y ∷ xs) x = ap suc (one_more xs x)

map_more : {X Y : Type 0} (f : X → Y) (xs : List X) (x : X) → map f (xs ++ x ∷ []) ≡ map f xs ++ f x ∷ []
map_more f [] x = refl
map_more f (y ∷ xs) x = ap (λ ys. f y ∷ ys) (map_more f xs x)

zip_more : (ss : List WordStack) (es : List End) (os : List ℕ) (s : WordStack) (e : End) (o : ℕ) → length es ≡ length ss → length os ≡ length ss
    → zipped (ss ++ s ∷ []) (es ++ e ∷ []) (os ++ o ∷ []) ≡ zipped ss es os ++ record { levels = s.levels; end = e; object = o } ∷ []
zip_more [] [] [] s e o es_long os_long = refl
zip_more [] (f ∷ es) os s e o es_long os_long = absurd (omega arith)
zip_more [] [] (p ∷ os) s e o es_long os_long = absurd (omega arith)
zip_more (x ∷ ss) [] os s e o es_long os_long = absurd (omega arith)
zip_more (x ∷ ss) (f ∷ es) [] s e o es_long os_long = absurd (omega arith)
zip_more (x ∷ ss) (f ∷ es) (p ∷ os) s e o es_long os_long =
    ap (λ ts. record { levels = x.levels; end = f; object = p } ∷ ts) (zip_more ss es os s e o (omega arith) (omega arith))

pub zip_length : (ss : List WordStack) (es : List End) (os : List ℕ) → length es ≡ length ss → length os ≡ length ss → length (zipped ss es os) ≡ length os
zip_length [] [] [] es_long os_long = refl
zip_length [] (f ∷ es) os es_long os_long = absurd (omega arith)
zip_length [] [] (p ∷ os) es_long os_long = absurd (omega arith)
zip_length (x ∷ ss) [] os es_long os_long = absurd (omega arith)
zip_length (x ∷ ss) (f ∷ es) [] es_long os_long = absurd (omega arith)
zip_length (x ∷ ss) (f ∷ es) (p ∷ os) es_long os_long = ap suc (zip_length ss es os (omega arith) (omega arith))

-- ---- answers

-- an answer of the same outcome
pub led : (r : Result Next AllocError) (d e : Did Left) (leaves : Left → Type 0) (stays : Type 0) → d ≡ e → Leads r e leaves stays → Leads r d leaves stays
led r d e leaves stays same does = let P : Did Left → Type 0 = λ x. Leads r x leaves stays in subst P (sym same) does

-- ---- steps

-- the stacks after a write through their slice
pub rewritten : (old : Threads) (ws ss : List WordStack) (t : ℕ) (g : Frame → Frame) → ws ≡ changed_at ss t g → ss ≡ old.stacks.items → (with_items old.stacks ws).items ≡ changed_at old.stacks.items t g
rewritten old ws ss t g is same =
    let e : ws ≡ changed_at old.stacks.items t g = is ∙ ap (λ xs. changed_at xs t g) same in
    with_items_is old.stacks ws (ap (λ (xs : List WordStack). length xs) e ∙ (changed_length g old.stacks.items t ∙ sym old.stacks.ok.0)) ∙ e

module _ (old new : Threads) (thread next : ℕ) (own : WordThread) (h : At) (is : IsThreadOf old thread next own h) where
  pub within : thread < length old.stacks.items
  within = got_within old.stacks.items thread is.stack is.has_stack

  levels_are : (g : Frame → Frame) (f : Frame) → g h.frame ≡ f → on_top g is.stack.levels ≡ level.Code f ∷ h.rest
  levels_are g f top = ap (on_top g) is.is_stack.levels ∙ ap (λ x. level.Code x ∷ h.rest) top

  moved : (g : Frame → Frame) (f : Frame) → g h.frame ≡ f → zipped (changed_at old.stacks.items thread g) old.ends.items old.objects.items ≡ slice_set (threads_of old) h.thread (record { levels = level.Code f ∷ h.rest; end = own.end; object = own.object })
  moved g f top =
      zip_changed g old.stacks.items old.ends.items old.objects.items thread is.stack own is.has_stack is.there ∙
      (λ j. slice_set (threads_of old) (sym is.number j) (record { levels = levels_are g f top j; end = own.end; object = own.object }))

  -- the frame on top has changed, and the monitors are these
  pub went : (g : Frame → Frame) (f : Frame) (m : Monitors) → g h.frame ≡ f → new.stacks.items ≡ changed_at old.stacks.items thread g → new.ends.items ≡ old.ends.items → new.objects.items ≡ old.objects.items
      → m ≡ new.monitors.monitors → LeavesThreads old new own h (leaves (with_monitors h.shared m) (level.Code f ∷ h.rest))
  went g f m top stacks ends objects monitors = record {
    threads = (λ j. zipped (stacks j) (ends j) (objects j)) ∙ (moved g f top ∙ sym (no_more _));
    shared = ap (with_monitors h.shared) monitors;
    aligned = record {
      ends = ap (λ (es : List End). length es) ends ∙ (is.aligned.ends ∙ sym (ap (λ (ss : List WordStack). length ss) stacks ∙ changed_length g old.stacks.items thread));
      objects = ap (λ (os : List ℕ). length os) objects ∙ (is.aligned.objects ∙ sym (ap (λ (ss : List WordStack). length ss) stacks ∙ changed_length g old.stacks.items thread));
    };
    bounded = ap (λ (ss : List WordStack). map bounds ss) stacks ∙ (changed_bounds g old.stacks.items thread ∙ sym (no_more _));
  }

  -- the frame on top goes on at the next address, and the monitors are these
  pub goes_on : (m : Monitors) → new.stacks.items ≡ changed_at old.stacks.items thread (λ f. gone f next) → new.ends.items ≡ old.ends.items → new.objects.items ≡ old.objects.items
      → m ≡ new.monitors.monitors → LeavesThreads old new own h (leaves (with_monitors h.shared m) (level.Code (gone h.frame h.next) ∷ h.rest))
  goes_on m stacks ends objects monitors = went (λ f. gone f next) (gone h.frame h.next) m (ap (gone h.frame) (sym is.after)) stacks ends objects monitors

  -- the same, where the monitors stay
  pub goes_alone : new.stacks.items ≡ changed_at old.stacks.items thread (λ f. gone f next) → new.ends.items ≡ old.ends.items → new.objects.items ≡ old.objects.items
      → new.monitors.monitors ≡ old.monitors.monitors → LeavesThreads old new own h (leaves h.shared (level.Code (gone h.frame h.next) ∷ h.rest))
  goes_alone stacks ends objects monitors = goes_on h.shared.monitors stacks ends objects (is.monitors ∙ sym monitors)

  -- the thread stays as it is, and the monitors are these
  pub stayed : (m : Monitors) → new.stacks.items ≡ old.stacks.items → new.ends.items ≡ old.ends.items → new.objects.items ≡ old.objects.items → m ≡ new.monitors.monitors
      → LeavesThreads old new own h (leaves (with_monitors h.shared m) (level.Code h.frame ∷ h.rest))
  stayed m stacks ends objects monitors = went (λ f. f) h.frame m refl (stacks ∙ sym (changed_none old.stacks.items thread)) ends objects monitors

  -- nothing has changed
  pub blocked : AreAsBefore old new → LeavesThreads old new own h (leaves h.shared (level.Code h.frame ∷ h.rest))
  blocked b = stayed h.shared.monitors b.stacks b.ends b.objects (is.monitors ∙ sym b.monitors)

  -- the thread goes on, and another was started
  pub started : (g : Frame → Frame) (f : Frame) (s : WordStack) (o : ℕ) → g h.frame ≡ f → new.stacks.items ≡ changed_at old.stacks.items thread g ++ s ∷ [] → new.ends.items ≡ old.ends.items ++ end.Living ∷ []
      → new.objects.items ≡ old.objects.items ++ o ∷ [] → new.monitors.monitors ≡ old.monitors.monitors → bounds s ≡ (h.limits.levels, h.limits.words)
      → LeavesThreads old new own h (record { levels = level.Code f ∷ h.rest; shared = h.shared; started = Some (record { levels = s.levels; end = end.Living; object = o }) })
  started g f s o top stacks ends objects monitors room =
      let count : length new.stacks.items ≡ suc (length old.stacks.items) = ap (λ (ss : List WordStack). length ss) stacks ∙ (one_more (changed_at old.stacks.items thread g) s ∙ ap suc (changed_length g old.stacks.items thread)) in
      record {
        threads =
            (λ j. zipped (stacks j) (ends j) (objects j)) ∙
            (zip_more (changed_at old.stacks.items thread g) old.ends.items old.objects.items s end.Living o
            (is.aligned.ends ∙ sym (changed_length g old.stacks.items thread)) (is.aligned.objects ∙ sym (changed_length g old.stacks.items thread)) ∙
            ap (λ ts. ts ++ record { levels = s.levels; end = end.Living; object = o } ∷ []) (moved g f top));
        shared = ap (with_monitors h.shared) (is.monitors ∙ sym monitors);
        aligned = record {
          ends = ap (λ (es : List End). length es) ends ∙ (one_more old.ends.items end.Living ∙ (ap suc is.aligned.ends ∙ sym count));
          objects = ap (λ (os : List ℕ). length os) objects ∙ (one_more old.objects.items o ∙ (ap suc is.aligned.objects ∙ sym count));
        };
        bounded =
            ap (λ (ss : List WordStack). map bounds ss) stacks ∙
            (map_more bounds (changed_at old.stacks.items thread g) s ∙
            (λ j. changed_bounds g old.stacks.items thread j ++ room j ∷ []));
      }
