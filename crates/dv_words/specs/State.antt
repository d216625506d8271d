-- The state on words: the tagged machine's without its tags.
use Rattle.std.specs.Prelude.{ℕ, List, Option}
use Rattle.dv_defs.specs.declared.machine.End.{End}
use Rattle.dv_defs.specs.declared.run.Ending.{Ending}
use Rattle.dv_defs.specs.declared.run.Limits.{Limits}
use Rattle.dv_defs.specs.declared.run.Preallocated.{Preallocated}
use Rattle.dv_machine.specs.Classes.{Classes}
use Rattle.dv_machine.specs.Monitors.{Monitors}
use Rattle.dv_words.specs.declared.state.Kind.{Kind}
use Rattle.dv_words.specs.declared.state.Level.{Level}

-- the levels of a thread, the top one first, and how many levels and register words there may be
pub record WordStack : Type 0 where
  pub levels : List Level
  pub most_levels : ℕ
  pub most_words : ℕ

pub record WordHeap : Type 0 where
  -- of the objects 1, 2, 3 ..; the words of a string are its units
  pub kinds : List Kind
  pub cells : List (List ℕ)
  -- by field; an instance field has no words
  pub statics : List (List ℕ)
  -- the interned strings and the Class objects
  pub interned : List ℕ
  pub class_objects : List ℕ
  pub used : ℕ
  -- none while nothing is counted
  pub limit : Option ℕ

-- a guest thread: its levels, the top one first, how it stands, and its Thread object
pub record WordThread : Type 0 where
  pub levels : List Level
  pub end : End
  pub object : ℕ

-- what all threads share
pub record WordShared : Type 0 where
  pub heap : WordHeap
  pub classes : Classes
  pub monitors : Monitors
  pub output : List ℕ

-- threads by number, the steps done, what stopped the run where something did, and the exceptions that the opening made
pub record WordMachine : Type 0 where
  pub threads : List WordThread
  pub shared : WordShared
  pub steps : ℕ
  pub stop : Option Ending
  pub limits : Limits
  pub preallocated : Preallocated
