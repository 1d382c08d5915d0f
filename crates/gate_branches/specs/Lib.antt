pub mod Digraphs
