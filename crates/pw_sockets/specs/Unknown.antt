-- Of a socket's bytes nothing is known: what its client sends and gets is the system's.
-- (Definition of this project.)
use Rattle.std.specs.Prelude.{None}
use Rattle.pw_serve.specs.Connections.{Connection}

abbrev pub unknown : Connection
unknown = record { unread = None; told = None; broken = None; ended = None }
