-- Promises that are held: by number, then by requester, then in order of arrival.
use Rattle.std.specs.Prelude.{ℕ, ◌==◌, ◌&&◌, ◌||◌, nat_lt, Bool, List, Option}
use Rattle.std.specs.List.{list_any}
use Rattle.caf_message.specs.Lists.{pick}
use Rattle.caf_response.specs.Promised.{Promised}
use Rattle.caf_response.specs.Lines.{put_in, first_of}

abbrev pub key_of : Promised → ℕ × ℕ
key_of p = (p.mid.number, p.mid.requester)

-- by number, then by requester
abbrev pub is_before : Promised → Promised → Bool
is_before p q = nat_lt p.mid.number q.mid.number || (p.mid.number == q.mid.number && nat_lt p.mid.requester q.mid.requester)

-- one more, behind all that it doesn't come before
abbrev pub with_hold : List Promised → Promised → List Promised
with_hold = put_in is_before

abbrev pub is_of : ℕ → ℕ → Promised → Bool
is_of requester number p = p.mid.requester == requester && p.mid.number == number

abbrev pub is_held : List Promised → ℕ → ℕ → Bool
is_held holds requester number = list_any (is_of requester number) holds

-- the first one of that requester and number, and the others
abbrev pub take_hold : List Promised → ℕ → ℕ → Option (Promised × List Promised)
take_hold holds requester number = pick (is_of requester number) holds

-- the first one, and the others
abbrev pub first_hold : List Promised → Option (Promised × List Promised)
first_hold = first_of
