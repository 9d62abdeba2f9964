-- A received message: the one that the code's fields stand for, its entry lines in a part of the received bytes. Assumes nothing.
use Rattle.std.specs.Prelude.{ℕ, List}
use Rattle.message.specs.Message.{Message, Body as Said}
use Rattle.message.specs.Walk.{entries_from}
use Rattle.message.specs.Answer.{said_with, many_in, message_by}
use Rattle.message.specs.declared.Body.{Body}
use Rattle.message.specs.declared.Fields.{Fields}

-- What a body says whose entry lines stand in s.
abbrev pub body_in : Body → List ℕ → Said
body_in b s = said_with b (entries_from (many_in b) s)

-- The message of fields whose entry lines stand in s.
abbrev pub message_heard : Fields → List ℕ → Message
message_heard f s = message_by f (entries_from (many_in f.body) s)
