-- The states of a TCP connection, as a translator between its ends follows them (RFC 5382 5, RFC 7857 2).
use Rattle.std.specs.Prelude.{ℕ, Bool, true, false, not, ◌&&◌, ◌==◌, bit_and, if◌then◌else◌}
use Rattle.tcp_track.specs.declared.TcpState.{TcpState}
use Rattle.tcp_track.specs.declared.TcpState.TheVariants.{Opening, Open, HalfOut, HalfIn, Ending}
use Rattle.tcp_track.specs.declared.Signal.{Signal}
use Rattle.tcp_track.specs.declared.Signal.TheVariants.{Rst, Fin, Syn, Other}

-- the control bit of this worth is set: FIN is 1, SYN 2, RST 4 and ACK 16 (RFC 9293 3.1)
abbrev pub is_set : ℕ → ℕ → Bool
is_set worth flags = not (bit_and flags worth == 0)

-- what a segment says: RST before FIN before SYN without ACK, and otherwise nothing
abbrev pub signal_of : ℕ → Signal
signal_of flags =
    if is_set 4 flags then Rst
    else if is_set 1 flags then Fin
    else if is_set 2 flags && not (is_set 16 flags) then Syn
    else Other

-- The states that follow one state, by the segment: on its way out with RST, FIN, SYN or none of them, and on its way in with
-- RST, FIN or neither.
pub record Line : Type 0 where
  pub out_rst : TcpState
  pub out_fin : TcpState
  pub out_syn : TcpState
  pub out_other : TcpState
  pub in_rst : TcpState
  pub in_fin : TcpState
  pub in_other : TcpState

abbrev pub line : TcpState → TcpState → TcpState → TcpState → TcpState → TcpState → TcpState → Line
line out_rst out_fin out_syn out_other in_rst in_fin in_other =
    record {
      out_rst = out_rst;
      out_fin = out_fin;
      out_syn = out_syn;
      out_other = out_other;
      in_rst = in_rst;
      in_fin = in_fin;
      in_other = in_other;
    }

-- the table: each state with what follows it, in the order of the columns
abbrev pub line_of : TcpState → Line
line_of Opening = line Ending Opening Opening Opening Ending HalfIn Open
line_of Open = line Ending HalfOut Open Open Ending HalfIn Open
line_of HalfOut = line Ending HalfOut HalfOut HalfOut Ending Ending HalfOut
line_of HalfIn = line Ending Ending HalfIn HalfIn Ending HalfIn HalfIn
line_of Ending = line Ending Ending Opening Ending Ending Ending Ending

-- the column of a segment
abbrev pub out_column : Signal → Line → TcpState
out_column Rst l = l.out_rst
out_column Fin l = l.out_fin
out_column Syn l = l.out_syn
out_column Other l = l.out_other

abbrev pub in_column : Signal → Line → TcpState
in_column Rst l = l.in_rst
in_column Fin l = l.in_fin
in_column Syn l = l.in_other
in_column Other l = l.in_other

-- the state after a segment with these control bits
abbrev pub next : TcpState → ℕ → Bool → TcpState
next state flags outbound =
    if outbound then out_column (signal_of flags) (line_of state) else in_column (signal_of flags) (line_of state)

-- the state after the first segment, which goes out
abbrev pub first : ℕ → TcpState
first flags = if is_set 4 flags then Ending else Opening

-- a connection that isn't established, which lasts the shorter time unused (RFC 5382 5, REQ-5)
abbrev pub short_idle : TcpState → Bool
short_idle Opening = true
short_idle Open = false
short_idle HalfOut = false
short_idle HalfIn = false
short_idle Ending = true
