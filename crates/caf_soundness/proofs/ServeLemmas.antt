-- Who may be used as a taker of some content takes it, and answers it so.
use Rattle.std.proofs.Common.{◌≡◌, ℕ, true, List, [], ◌∷◌, Option, Some, None, refl}
use Rattle.caf_signature.specs.Interface.{is_assignable}
use Rattle.caf_signature.specs.declared.interface.Signature.{Signature}
use Rattle.caf_actor.specs.Rules.{is_input, declared_for}
use Rattle.caf_kinds.specs.Asking.{of_unit, of_unsigned, of_signed, type_ids, takes}
use Rattle.caf_kinds.specs.Calc.{adding}
use Rattle.caf_kinds.specs.Kinds.{interface_of}
use Rattle.caf_kinds.specs.Peers.{taker_of}
use Rattle.caf_kinds.specs.Pipeline.{of_chunk, of_postings, of_extent, of_finish, counting}
use Rattle.caf_kinds.specs.declared.setup.KindName.{KindName}
use Rattle.caf_kinds.specs.declared.setup.KindName.TheVariants as name
use Rattle.caf_kinds.specs.declared.setup.Setup.{Setup}
use Rattle.caf_soundness.specs.Typed.{face_of, child_face, Serves}

-- what holds of all kinds that serve holds of who is set up there
pub served : (wanted : List Signature) (P : List Signature → Type 0) → ((k : KindName) → is_assignable (interface_of k) wanted ≡ true → P (interface_of k)) → (o : Option Setup) → Serves o wanted → P (face_of o)
served wanted P of_kind None h = absurd h
served wanted P of_kind (Some s) h = of_kind s.kind h

abbrev pub Takes : List ℕ → List Signature → Type 0
Takes ids s = is_input s ids ≡ true

abbrev pub Answers : List ℕ → List ℕ → List Signature → Type 0
Answers ids result s = declared_for s ids ≡ Some result

abbrev pub relayed_face : List Signature
relayed_face = takes of_chunk of_unit ∷ takes counting of_unsigned ∷ []

-- of chunks
pub chunk_taken : (k : KindName) → is_assignable (interface_of k) (taker_of of_chunk) ≡ true → Takes (type_ids of_chunk) (interface_of k)
chunk_taken name.Echo e = absurd cc
chunk_taken name.Cell e = absurd cc
chunk_taken name.Calc e = absurd cc
chunk_taken name.Holder e = absurd cc
chunk_taken name.Quitter e = absurd cc
chunk_taken name.Source e = absurd cc
chunk_taken name.Relay e = refl
chunk_taken name.Counter e = refl
chunk_taken name.Lines e = refl
chunk_taken name.Collector e = absurd cc
chunk_taken name.Watcher e = absurd cc
chunk_taken name.Spawner e = absurd cc
chunk_taken name.Alarm e = absurd cc
chunk_taken name.Conductor e = absurd cc

pub finish_taken : (k : KindName) → is_assignable (interface_of k) (taker_of of_finish) ≡ true → Takes (type_ids of_finish) (interface_of k)
finish_taken name.Echo e = absurd cc
finish_taken name.Cell e = absurd cc
finish_taken name.Calc e = absurd cc
finish_taken name.Holder e = absurd cc
finish_taken name.Quitter e = absurd cc
finish_taken name.Source e = absurd cc
finish_taken name.Relay e = absurd cc
finish_taken name.Counter e = absurd cc
finish_taken name.Lines e = absurd cc
finish_taken name.Collector e = refl
finish_taken name.Watcher e = absurd cc
finish_taken name.Spawner e = absurd cc
finish_taken name.Alarm e = absurd cc
finish_taken name.Conductor e = absurd cc

pub postings_taken : (k : KindName) → is_assignable (interface_of k) (taker_of of_postings) ≡ true → Takes (type_ids of_postings) (interface_of k)
postings_taken name.Echo e = absurd cc
postings_taken name.Cell e = absurd cc
postings_taken name.Calc e = absurd cc
postings_taken name.Holder e = absurd cc
postings_taken name.Quitter e = absurd cc
postings_taken name.Source e = absurd cc
postings_taken name.Relay e = absurd cc
postings_taken name.Counter e = absurd cc
postings_taken name.Lines e = absurd cc
postings_taken name.Collector e = refl
postings_taken name.Watcher e = absurd cc
postings_taken name.Spawner e = absurd cc
postings_taken name.Alarm e = absurd cc
postings_taken name.Conductor e = absurd cc

pub extent_taken : (k : KindName) → is_assignable (interface_of k) (taker_of of_extent) ≡ true → Takes (type_ids of_extent) (interface_of k)
extent_taken name.Echo e = absurd cc
extent_taken name.Cell e = absurd cc
extent_taken name.Calc e = absurd cc
extent_taken name.Holder e = absurd cc
extent_taken name.Quitter e = absurd cc
extent_taken name.Source e = absurd cc
extent_taken name.Relay e = absurd cc
extent_taken name.Counter e = absurd cc
extent_taken name.Lines e = absurd cc
extent_taken name.Collector e = refl
extent_taken name.Watcher e = absurd cc
extent_taken name.Spawner e = absurd cc
extent_taken name.Alarm e = absurd cc
extent_taken name.Conductor e = absurd cc

pub relayed_taken : (k : KindName) → is_assignable (interface_of k) (relayed_face) ≡ true → Takes (type_ids of_chunk) (interface_of k)
relayed_taken name.Echo e = absurd cc
relayed_taken name.Cell e = absurd cc
relayed_taken name.Calc e = absurd cc
relayed_taken name.Holder e = absurd cc
relayed_taken name.Quitter e = absurd cc
relayed_taken name.Source e = absurd cc
relayed_taken name.Relay e = refl
relayed_taken name.Counter e = refl
relayed_taken name.Lines e = absurd cc
relayed_taken name.Collector e = absurd cc
relayed_taken name.Watcher e = absurd cc
relayed_taken name.Spawner e = absurd cc
relayed_taken name.Alarm e = absurd cc
relayed_taken name.Conductor e = absurd cc

-- of a count
pub count_answered : (k : KindName) → is_assignable (interface_of k) (relayed_face) ≡ true → Answers (type_ids counting) (type_ids of_unsigned) (interface_of k)
count_answered name.Echo e = absurd cc
count_answered name.Cell e = absurd cc
count_answered name.Calc e = absurd cc
count_answered name.Holder e = absurd cc
count_answered name.Quitter e = absurd cc
count_answered name.Source e = absurd cc
count_answered name.Relay e = refl
count_answered name.Counter e = refl
count_answered name.Lines e = absurd cc
count_answered name.Collector e = absurd cc
count_answered name.Watcher e = absurd cc
count_answered name.Spawner e = absurd cc
count_answered name.Alarm e = absurd cc
count_answered name.Conductor e = absurd cc

-- of a sum
pub sum_answered : (k : KindName) → is_assignable (interface_of k) (child_face) ≡ true → Answers (type_ids adding) (type_ids of_signed) (interface_of k)
sum_answered name.Echo e = absurd cc
sum_answered name.Cell e = absurd cc
sum_answered name.Calc e = refl
sum_answered name.Holder e = absurd cc
sum_answered name.Quitter e = absurd cc
sum_answered name.Source e = absurd cc
sum_answered name.Relay e = absurd cc
sum_answered name.Counter e = absurd cc
sum_answered name.Lines e = absurd cc
sum_answered name.Collector e = absurd cc
sum_answered name.Watcher e = absurd cc
sum_answered name.Spawner e = refl
sum_answered name.Alarm e = absurd cc
sum_answered name.Conductor e = absurd cc
