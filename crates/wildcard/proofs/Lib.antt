pub mod Asterisk
