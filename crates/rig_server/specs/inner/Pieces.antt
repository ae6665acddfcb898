-- The part of a history that its file doesn't have yet: a piece, which is written next, and the archives after it, the oldest first.
use Rattle.std.specs.Prelude.{◌≡◌, ◌<◌, ◌^◌, ℕ, List, [], ◌∷◌, ◌++◌, drop, Option, Some, None}
use Rattle.std.specs.List.{flat_map}
use Rattle.locked_book.specs.Books.{ArchiveValue}
use Rattle.rig_history.specs.Entries.{text_of_log}
use Rattle.rig_history.specs.Pieces.{PieceValue, tick_after_log}
use Rattle.rig_model.specs.Logs.{calls_of_seat}
use Rattle.rig_model.specs.config.Roster.{Rig}
use Rattle.rig_model.specs.declared.logged.Call.{Call}
use Rattle.rig_model.specs.declared.logged.Logged.{Logged}
use Rattle.rig_server.specs.inner.Archived.{archived_of}

-- the bytes of a piece that are left to write
abbrev pub left_of : Option PieceValue → List ℕ
left_of None = []
left_of (Some piece) = piece.left

-- the entries of archives
abbrev pub entries_of : List ArchiveValue → List Logged
entries_of archives = flat_map (λ (a : ArchiveValue). a.log) archives

-- all that is left to write; `tick` is the number of the next instant after the piece
abbrev pub text_left : Rig → Option PieceValue → ℕ → List ArchiveValue → List ℕ
text_left rig piece tick archives = left_of piece ++ text_of_log rig tick (entries_of archives)

-- nothing is left to write
abbrev pub IsWritten : Option PieceValue → List ArchiveValue → Type 0
IsWritten piece archives = (piece ≡ None) × (archives ≡ [])

-- If the number of each instant fits into 64 bits, the beginning of what was left to write was written, and the rest is left.
abbrev pub WritesOn : Rig → Option PieceValue → ℕ → List ArchiveValue → Option PieceValue → ℕ → List ArchiveValue → (List ℕ → Type 0) → Type 0
WritesOn rig piece tick archives later_piece later_tick later_archives Writes = tick_after_log tick (entries_of archives) < 2 ^ 64
    → (tick_after_log later_tick (entries_of later_archives) ≡ tick_after_log tick (entries_of archives))
    × ((bytes : List ℕ) × (text_left rig piece tick archives ≡ bytes ++ text_left rig later_piece later_tick later_archives) × Writes bytes)

-- the entries of archives, from this one of the oldest on
abbrev pub entries_from : ℕ → List ArchiveValue → List Logged
entries_from n [] = []
entries_from n (archive ∷ archives) = drop n archive.log ++ entries_of archives

-- The calls of a seat that no pass was compared with: those up to the piece, and those of the archives. The calls in the first entries of the
-- oldest archive may be among the former already; `noted` is the number of these entries.
abbrev pub calls_left : List (List Call) → ℕ → List ArchiveValue → ℕ → List Call
calls_left rows noted archives seat = archived_of rows seat ++ calls_of_seat seat (entries_from noted archives)
