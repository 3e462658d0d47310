-- The envelopes that an actor has taken and not yet handled, in plain form.
use Rattle.std.specs.Prelude.{Bool, true, false, not, ◌||◌, List, [], ◌++◌, filter, Option, Some, None}
use Rattle.std.specs.List.{list_any}
use Rattle.caf_types.specs.declared.notice.Priority.{Priority}
use Rattle.caf_types.specs.declared.notice.Priority.TheVariants.{Urgent, Normal}
use Rattle.caf_message.specs.declared.envelope.Taken.{Taken}
use Rattle.caf_message.specs.Lists.{pick}

pub record CachedLists : Type 0 where
  pub urgent : List Taken
  pub normal : List Taken

abbrev pub nothing_cached : CachedLists
nothing_cached = record { urgent = []; normal = [] }

-- ---- filing

abbrev pub is_urgent_priority : Priority → Bool
is_urgent_priority Urgent = true
is_urgent_priority Normal = false

abbrev pub is_urgent : Taken → Bool
is_urgent e = is_urgent_priority e.priority

abbrev pub is_normal : Taken → Bool
is_normal e = not (is_urgent e)

-- the batch's urgent envelopes at the end of the urgent list, and its normal ones at the end of the
-- normal list, in the order taken
abbrev pub filed : CachedLists → List Taken → CachedLists
filed lists batch = record { urgent = lists.urgent ++ filter is_urgent batch; normal = lists.normal ++ filter is_normal batch }

-- ---- the next envelope

-- the urgent one, if there is one, and the lists without it; else the normal one
abbrev pub urgent_else_normal : CachedLists → Option (Taken × List Taken) → Option (Taken × List Taken) → Option (Taken × CachedLists)
urgent_else_normal lists (Some p) normal = Some (p.0, record { urgent = p.1; normal = lists.normal })
urgent_else_normal lists None (Some p) = Some (p.0, record { urgent = lists.urgent; normal = p.1 })
urgent_else_normal lists None None = None

-- the first eligible one of the urgent list, else the first eligible one of the normal list, and the
-- lists without it
abbrev pub next_of : (Taken → Bool) → CachedLists → Option (Taken × CachedLists)
next_of test lists = urgent_else_normal lists (pick test lists.urgent) (pick test lists.normal)

-- some envelope is eligible
abbrev pub has_eligible : (Taken → Bool) → CachedLists → Bool
has_eligible test lists = list_any test lists.urgent || list_any test lists.normal

-- the first urgent one, else the first normal one, and the lists without it
abbrev pub first_of : CachedLists → Option (Taken × CachedLists)
first_of lists = next_of (λ e. true) lists
