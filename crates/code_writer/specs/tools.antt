pub mod InstrLine
