-- The two ends of a client: its server, and its user.
use Rattle.std.specs.Prelude.{◌≡◌, ℕ, List, ◌++◌, Option, IfSome, codes}
use Rattle.std.specs.Io.BufRead.{DropsThrough, take_through}
use Rattle.std.specs.Io.KnownBytes.{Appends}
use Rattle.rig_client.specs.declared.answers.Server.{Server}
use Rattle.rig_client.specs.declared.users.User.{User}

-- the bytes that were sent to a server, if they are known
abbrev pub sent_to : {R W : Type 0} → (W → Option (List ℕ)) → Server R W → Option (List ℕ)
sent_to contents server = contents server.writer

-- the bytes that a server will still answer, if they are known
abbrev pub to_come : {R W : Type 0} → (R → Option (List ℕ)) → Server R W → Option (List ℕ)
to_come remaining server = remaining server.reader

-- a line was sent with an LF, and this is its answer: the server's next bytes up to and including an LF
abbrev pub IsAsked : {R W : Type 0} → (W → Option (List ℕ)) → (R → Option (List ℕ)) → Server R W → Server R W → List ℕ → List ℕ → Type 0
IsAsked contents remaining old new line answer =
    Appends (sent_to contents old) (sent_to contents new) (line ++ codes "\n")
    × IfSome (to_come remaining old) (λ bytes. answer ≡ take_through 10 bytes)
    × DropsThrough (to_come remaining old) (to_come remaining new) 10

-- the bytes that were written for a user, if they are known
abbrev pub said_to : {I O E : Type 0} → (O → Option (List ℕ)) → User I O E → Option (List ℕ)
said_to contents user = contents user.output
